use Rattle.std.proofs.Common.{ap, arith, lit<, get_or, w16}
use Rattle.code_engine.proofs.Arrays.{array-small}
use Rattle.binary_field.specs.Xor.{◌⊕◌}
use Rattle.wide_solve.specs.PeelLaws.{has-three}
use Rattle.wide_solve.proofs.three.Goals as goal

pub returns : goal.returns
unfolding ◌⊕◌
returns c = λ d.
    let a = c.args in
    let y = d 0 2 (lit< tt) (lit< tt) in
    let z = d 1 2 (lit< tt) (lit< tt) in
    has-three a.x a.s (array-small w16 6 a.s _ c.well_formed.1.0 0) c.two-u.result _ _ c.quotient-p.result
    c.quotient-q.result (omega arith) (omega arith)
    (ap (λ b. get_or a.s 1 0 ⊕ b) c.product.ensures) (ap (λ b. get_or a.s 2 0 ⊕ b) c.product-2.ensures)
    (c.two-u.ensures (λ i j l h. d i j l (omega arith)))
    (c.quotient-p.ensures.result_value y.0 y.1) (c.quotient-q.ensures.result_value z.0 z.1)
