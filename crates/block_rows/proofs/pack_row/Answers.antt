use Rattle.std.proofs.Common.{◌≡◌, sym, ap, cond, ◌∙◌, List, ℕ, arith, get_or, eq-eqb, ne_eqb}
use Rattle.code_engine.specs.ListsLaws.{each_set}
use Rattle.block_laws.specs.Group.{masked}
use Rattle.block_rows.proofs.pack_row.Goals as goal
use Rattle.block_rows.proofs.pack_row.Goals.{then-bound-j-eq1, else-bound-j-eq1}

pub loop-j-preserved : goal.loop-j-preserved
loop-j-preserved c =
    let a = c.args in
    let k : List ℕ = a.bound.now in
    let j : ℕ = c.loop-j.j in
    each_set (λ i b. b ≡ masked k (λ i. get_or a.row i 0) i) c.loop-j.out j c.if-bound-j-eq1.x 0 (omega arith) c.loop-j.invariant
    (elim c.if-bound-j-eq1.branch [
      | then-bound-j-eq1 v ↦ (v.x-is ∙ sym (ap (λ b. cond b 0 (get_or a.row j 0)) (eq-eqb (get_or k j 0) 1 v.if-bound-j-eq1.true)))
      | else-bound-j-eq1 v ↦ (v.x-is ∙ sym (ap (λ b. cond b 0 (get_or a.row j 0)) (ne_eqb (get_or k j 0) 1 v.if-bound-j-eq1.false)))
    ])
