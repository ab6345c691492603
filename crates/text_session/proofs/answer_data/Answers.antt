use Rattle.std.proofs.Common.{sym, ◌∙◌, subst, length-take-le}
use Rattle.text_session.specs.Turn.{refused_turn}
use Rattle.text_session.specs.Replies.{Replies}
use Rattle.text_session.specs.Laws.{data-unshaped, figures, figures-most}
use Rattle.text_session.proofs.answer_data.Goals as goal

pub slice_bounds-word-end : goal.slice_bounds-word-end
slice_bounds-word-end c =
    (figures-most _ _ _ _ (sym c.describe.ensures.answer ∙ c.in-Ok.is)).0

pub slice_bounds-encode_in-end : goal.slice_bounds-encode_in-end
slice_bounds-encode_in-end c =
    let most = figures-most _ _ _ _ (sym c.describe.ensures.answer ∙ c.in-Ok.is) in
    sym (length-take-le _ _ most.0)

pub encode_in-requires : goal.encode_in-requires
encode_in-requires c =
    let is = sym c.describe.ensures.answer ∙ c.in-Ok.is in
    let most = figures-most _ _ _ _ is in
    let f = figures _ _ _ _ is in
    length-take-le _ _ most.0 ∙ f.1

pub returns-in-Err : goal.returns-in-Err
returns-in-Err c =
    let a = c.args in
    data-unshaped _ _ _ _ _ _ (sym c.describe.ensures.answer ∙ c.in-Err.is)
    (subst (λ n. Replies c.refuse.result (refused_turn n a.m a.w a.c)) c.number.ensures c.refuse.ensures)
