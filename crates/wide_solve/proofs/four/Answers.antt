use Rattle.std.proofs.Common.{ap, arith, lit<, get_or, w16}
use Rattle.code_engine.proofs.Arrays.{array-small}
use Rattle.binary_field.specs.Xor.{◌⊕◌}
use Rattle.wide_solve.specs.PeelLaws.{has-four}
use Rattle.wide_solve.proofs.four.Goals as goal

pub returns : goal.returns
unfolding ◌⊕◌
returns c = λ d.
    let a = c.args in
    let x = d 0 3 (lit< tt) (lit< tt) in
    let y = d 1 3 (lit< tt) (lit< tt) in
    let z = d 2 3 (lit< tt) (lit< tt) in
    has-four a.x a.s (array-small w16 6 a.s _ c.well_formed.1.0 0) c.three-u.result _ _ _ c.quotient-p.result c.quotient-q.result
    c.quotient-r.result (omega arith) (omega arith) (omega arith)
    (ap (λ b. get_or a.s 1 0 ⊕ b) c.product.ensures) (ap (λ b. get_or a.s 2 0 ⊕ b) c.product-2.ensures)
    (ap (λ b. get_or a.s 3 0 ⊕ b) c.product-3.ensures)
    (c.three-u.ensures (λ i j l h. d i j l (omega arith)))
    (c.quotient-p.ensures.result_value x.0 x.1) (c.quotient-q.ensures.result_value y.0 y.1) (c.quotient-r.ensures.result_value z.0 z.1)
