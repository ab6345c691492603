use Rattle.std.proofs.Common.{ap, ◌∙◌, arith, lit<, get_or, w16}
use Rattle.code_engine.proofs.Arrays.{array-small}
use Rattle.binary_field.specs.Xor.{◌⊕◌}
use Rattle.wide_solve.specs.PeelLaws.{has-two}
use Rattle.wide_solve.proofs.two.Goals as goal

pub returns : goal.returns
unfolding ◌⊕◌
returns c = λ d.
    let a = c.args in
    let y = d 0 1 (lit< tt) (lit< tt) in
    has-two a.x a.s (array-small w16 6 a.s _ c.well_formed.1.0 0) c.quotient-p.result (omega arith)
    (c.quotient-p.ensures.result_value y.0 y.1 ∙ ap (λ z. get_or a.s 1 0 ⊕ z) c.product.ensures)
