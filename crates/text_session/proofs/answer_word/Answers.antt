use Rattle.std.proofs.Common.{sym, ap, ◌∙◌, subst, arith, Err}
use Rattle.code_services.specs.AnsweredLaws.{answers_at}
use Rattle.text_session.specs.Turn.{refused_turn}
use Rattle.text_session.specs.Replies.{Replies}
use Rattle.text_session.specs.Laws.{word-refused, word-contradictory, word-done, word-most, no-nine}
use Rattle.text_session.proofs.answer_word.Goals as goal

pub reply_word-requires : goal.reply_word-requires
reply_word-requires c =
    let a = c.args in
    let h = word-most a.word.now a.marks.now a.m a.w a.c (sym (answers_at c.recover.ensures.answer) ∙ c.in-Ok.is) in
    omega arith

pub returns-in-Ok : goal.returns-in-Ok
returns-in-Ok c = word-done _ _ _ _ _ _ _ (sym (answers_at c.recover.ensures.answer) ∙ c.in-Ok.is) c.recover.ensures.word c.reply_word.ensures

pub returns-in-Contradictory : goal.returns-in-Contradictory
returns-in-Contradictory c =
    word-contradictory _ _ _ _ _ _ _ (sym (answers_at c.recover.ensures.answer) ∙ c.in-Err.is ∙ ap Err c.in-Contradictory.is) c.contradict.ensures

pub returns-in_default : goal.returns-in_default
returns-in_default c =
    let a = c.args in
    word-refused _ _ _ _ _ _ _ (sym (answers_at c.recover.ensures.answer) ∙ c.in-Err.is) (no-nine _ c.in_default.not-Contradictory)
    (subst (λ n. Replies c.refuse.result (refused_turn n a.m a.w a.c)) c.number.ensures c.refuse.ensures)
