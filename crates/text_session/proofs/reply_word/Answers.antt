use Rattle.text_session.specs.RepliesLaws.{replies}
use Rattle.text_session.proofs.reply_word.Goals as goal

pub returns : goal.returns
returns c = replies _ _ _ _ _ _ (c.word-line.ensures.whole c.requires) c.reply_with.ensures
