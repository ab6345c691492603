use Rattle.text_session.specs.RepliesLaws.{replies}
use Rattle.text_session.proofs.reply_figures.Goals as goal

pub returns : goal.returns
returns c = replies _ _ _ _ _ _ c.ok-line.ensures c.reply_with.ensures
