use Rattle.std.proofs.Common.{sym, ◌∙◌, arith, subst}
use Rattle.text_session.specs.Turn.{refused_turn}
use Rattle.text_session.specs.Replies.{Replies}
use Rattle.text_session.specs.Laws.{shape-refused, shape-done, figures-most}
use Rattle.text_session.proofs.answer_shape.Goals as goal

pub reply_figures-requires : goal.reply_figures-requires
reply_figures-requires c =
    let h = figures-most _ _ _ _ (sym c.describe.ensures.answer ∙ c.in-Ok.is) in
    (omega arith, omega arith)

pub returns-in-Err : goal.returns-in-Err
returns-in-Err c =
    let a = c.args in
    shape-refused _ _ _ _ _ _ _ _ (sym c.describe.ensures.answer ∙ c.in-Err.is)
    (subst (λ n. Replies c.refuse.result (refused_turn n a.m a.w a.c)) c.number.ensures c.refuse.ensures)

pub returns-in-Ok : goal.returns-in-Ok
returns-in-Ok c =
    shape-done _ _ _ _ _ _ _ _ (sym c.describe.ensures.answer ∙ c.in-Ok.is) c.reply_figures.ensures
