use Rattle.std.proofs.Common.{ap₂, ◌∙◌, ℕ, ◌<◌, length, get_or, length-set, get_or-set_same, get_or-set_other, arith}
use native.Mathlib.Decide.{ℕ_discrete}
use Rattle.binary_field.specs.Xor.{◌⊕◌}
use Rattle.binary_field.specs.XorLaws.{⊕-bits}
use Rattle.block_sums.proofs.add_row.Goals as goal

pub loop-i-preserved : goal.loop-i-preserved
loop-i-preserved c =
    let l = c.loop-i in
    let i : ℕ = l.i in
    let w : i < length l.out = omega arith in (
      simp length-set l.invariant.0,
      (λ j h. elim (ℕ_discrete j i) [
        | yes e ↦ (rw e
            (get_or-set_same l.out i _ 0 w ∙ ⊕-bits (get_or l.out i 0) (get_or c.row_sums-r.result i 0)
            ∙ ap₂ ◌⊕◌ (l.invariant.2 i (omega arith)) (c.row_sums-r.ensures i (omega arith))))
        | no e ↦ get_or-set_other l.out i j _ 0 e ∙ l.invariant.1 j (omega arith)
      ]),
      λ j h. get_or-set_other l.out i j _ 0 (λ e. omega arith) ∙ l.invariant.2 j (omega arith),
    )
