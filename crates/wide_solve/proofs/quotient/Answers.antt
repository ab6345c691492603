use Rattle.std.proofs.Common.{ap, ◌∙◌, ℕ, arith, length, get_or}
use Rattle.binary_field.specs.Xor.{◌⊕◌}
use Rattle.binary_field.specs.Product.{product}
use Rattle.wide_solve.specs.Small.{digits}
use Rattle.wide_solve.specs.SmallLaws.{digits_lt, row-length, small-quotient}
use Rattle.wide_solve.proofs.quotient.Goals as goal

pub bounds-row-d : goal.bounds-row-d
unfolding digits ◌⊕◌
bounds-row-d c =
    let l = ap length c.requires ∙ row-length in
    rw l (rw c.from-d.ensures (digits_lt c.args.a))

pub returns : goal.returns
unfolding digits ◌⊕◌
returns c =
    let a : ℕ = c.args.a in
    let e = c.product.ensures ∙ ap (λ d. product 16 69643 c.args.u (get_or c.args.row.now d 0)) c.from-d.ensures
    ∙ ap (λ l. product 16 69643 c.args.u (get_or l (digits a) 0)) c.requires in
    record { value = e; result_value = λ small n. ap (product 16 69643 a) e ∙ small-quotient a c.args.u small n (omega arith) }
