use Rattle.text_session.specs.RepliesLaws.{replies}
use Rattle.text_session.proofs.contradict.Goals as goal

pub returns : goal.returns
returns c = replies _ _ _ _ _ _ c.contradictory-line.ensures c.reply_with.ensures
