use Rattle.std.proofs.Common.{ap, get_or-set_same, get_or-set_other, ◌∙◌, List, ℕ, ◌+◌, ◌<◌, length, get_or, length-set, arith}
use Rattle.block_tables.specs.StoreLaws.{xor-five}
use native.Mathlib.Decide.{ℕ_discrete}
use Rattle.binary_field.specs.Xor.{◌⊕◌}
use Rattle.binary_field.specs.Product.{double}
use Rattle.block_sums.proofs.step.Goals as goal

pub loop-i-preserved : goal.loop-i-preserved
loop-i-preserved c =
    let l = c.loop-i in
    let a = c.args in
    let i : ℕ = l.i in
    let t : List ℕ = a.t.now in
    let w : i < length l.r = omega arith in
    let d = c.double.ensures ∙ ap (double 8 285) (l.invariant.2 i (omega arith)) in (
      simp length-set l.invariant.0,
      (λ j h. elim (ℕ_discrete j i) [
        | yes e ↦ (rw e
            (get_or-set_same l.r i _ 0 w ∙ xor-five _ (get_or t (a.a + i) 0) (get_or t (a.b + i) 0) (get_or t (a.c + i) 0) (get_or t (a.d + i) 0)
            ∙ ap (λ x. x ⊕ get_or t (a.a + i) 0 ⊕ get_or t (a.b + i) 0 ⊕ get_or t (a.c + i) 0 ⊕ get_or t (a.d + i) 0) d))
        | no e ↦ get_or-set_other l.r i j _ 0 e ∙ l.invariant.1 j (omega arith)
      ]),
      λ k h. get_or-set_other l.r i k _ 0 (λ e. omega arith) ∙ l.invariant.2 k (omega arith),
    )
