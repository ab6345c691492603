use Rattle.std.proofs.Common.{refl, List, ℕ, [], arith, length-set}
use Rattle.code_engine.specs.ListsLaws.{each_set}
use Rattle.block_constants.proofs.clear.Invariants.{Cleared}
use Rattle.block_constants.proofs.clear.Goals as goal
use Rattle.block_constants.proofs.clear.Goals.{then-i-t, else-i-t}

pub loop-i-preserved : goal.loop-i-preserved
loop-i-preserved c =
    let a = c.args in
    let r = c.loop-i.r in
    let i : ℕ = c.loop-i.i in
    let new : List ℕ = c.if-i-t.r in (
      rw length-set c.loop-i.invariant.0,
      each_set (Cleared a.b a.t a.p a.rows) r i new [] (omega arith) c.loop-i.invariant.1
          (elim c.if-i-t.branch [
            | then-i-t v ↦ (λ _ j l. rw v.r-is refl, λ n. absurd (n v.if-i-t.true))
            | else-i-t v ↦ (λ e. absurd (v.if-i-t.false e), λ _. rw v.r-is v.add.ensures)
          ]),
    )
