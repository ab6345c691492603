use Rattle.std.proofs.Common.{ap₂, ◌∙◌, List, ℕ, ◌+◌, ◌<◌, length, get_or, length-set, arith}
use Rattle.binary_field.specs.Xor.{◌⊕◌}
use Rattle.binary_field.specs.XorLaws.{⊕-bits}
use Rattle.block_tables.specs.StoreLaws.{stored_here, stored-below, stored-above}
use Rattle.block_sums.proofs.add_rows.Goals as goal

pub loop-i-preserved : goal.loop-i-preserved
loop-i-preserved c =
    let l = c.loop-i in
    let a = c.args in
    let x : List ℕ = l.t in
    let w : a.b + l.i < length x = omega arith in (
      simp length-set l.invariant.0,
      stored_here x a.b l.i _ (λ j. get_or a.t.now (a.a1 + j) 0 ⊕ get_or a.t.now (a.a2 + j) 0) w
          (⊕-bits (get_or x (a.a1 + l.i) 0) (get_or x (a.a2 + l.i) 0)
          ∙ ap₂ ◌⊕◌ (l.invariant.2 (a.a1 + l.i) (omega arith)) (l.invariant.2 (a.a2 + l.i) (omega arith)))
          l.invariant.1,
      (λ k h. stored-below x a.b l.i _ k h ∙ l.invariant.2 k h),
      λ k h. stored-above x a.b l.i _ k h ∙ l.invariant.3 k (omega arith),
    )
