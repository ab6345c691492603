use Rattle.std.proofs.Common.{◌≡◌, refl, sym, ap, ◌∙◌, true, false, List, ℕ, suc, ◌+◌, arith, length, get_or, set, length-set, eq-eqb, ne_eqb}
use Rattle.counting.specs.Count.{count_below}
use Rattle.counting.specs.CountLaws.{total-none, count-le}
use Rattle.code.specs.Marks.{lost, lost_in}
use Rattle.block_constants.specs.ReducedLaws.{count-here, count_past}
use Rattle.code_engine.specs.PositionsLaws.{lost-below}
use Rattle.block_laws.specs.PassLaws.{targets-none, targets-past, targets_next}
use Rattle.block_engine.proofs.targets.Goals as goal
use Rattle.block_engine.proofs.targets.Goals.{then-b-eq1, else-b-eq1, then-n-lt4, else-n-lt4}

pub loop-j-init : goal.loop-j-init
loop-j-init c = (refl, sym (total-none _), λ _. targets-none _ _ _ 0)

pub overflow_add-n : goal.overflow_add-n
overflow_add-n c =
    omega (arith, count-le c.loop-j.j (lost c.args.bound.now))

pub loop-j-preserved : goal.loop-j-preserved
loop-j-preserved c =
    let a = c.args in
    let k : List ℕ = a.bound.now in
    let to : List ℕ = c.loop-j.to in
    let n : ℕ = c.loop-j.n in
    let j : ℕ = c.loop-j.j in
    let next : j + 1 ≡ suc j = omega arith in
    elim c.if-b-eq1.branch [
      | then-b-eq1 v ↦
          (let e : lost k j ≡ true = eq-eqb (get_or k j 0) 1 v.if-b-eq1.true in
          let q : c.if-b-eq1.n ≡ n + 1 = v.n-is in
          let h : count_below (j + 1) (lost k) ≡ suc (count_below j (lost k)) = ap (λ i. count_below i (lost k)) next ∙ count-here k j e in
          elim v.if-n-lt4.branch [
            | then-n-lt4 u ↦
                (let y : c.if-b-eq1.to ≡ set to n (a.base + j) = v.to-is ∙ u.to-is in (
                  rw (y, length-set) c.loop-j.invariant.0,
                  (let z = c.loop-j.invariant.1 in omega arith),
                  λ few. rw (y, q) (targets_next a.base k to j n c.loop-j.invariant.1 (omega arith) e (c.loop-j.invariant.2 (omega arith))),
                ))
            | else-n-lt4 u ↦
                (let y : c.if-b-eq1.to ≡ to = v.to-is ∙ u.to-is in
                (rw y c.loop-j.invariant.0, (let z = c.loop-j.invariant.1 in omega arith), λ few. absurd (let l = u.if-n-lt4.false in omega arith)))
          ])
      | else-b-eq1 v ↦
          (let e : lost k j ≡ false = ne_eqb (get_or k j 0) 1 v.if-b-eq1.false in
          let y : c.if-b-eq1.to ≡ to = v.to-is in
          let q : c.if-b-eq1.n ≡ n = v.n-is in
          let h : count_below (j + 1) (lost k) ≡ count_below j (lost k) = ap (λ i. count_below i (lost k)) next ∙ count_past k j e in (
            rw y c.loop-j.invariant.0,
            (let z = c.loop-j.invariant.1 in omega arith),
            λ few.
                rw (y, q) (targets-past a.base k to j n e (c.loop-j.invariant.2 (omega arith))),
          ))
    ]

pub returns : goal.returns
returns c =
    let a = c.args in
    let k : List ℕ = a.bound.now in
    let e : c.loop-j.j ≡ length k = omega arith in
    let n : c.loop-j.n ≡ lost_in (length k) k 0 = c.loop-j.invariant.1 ∙ ap (λ i. count_below i (lost k)) e ∙ lost-below k (length k) in
    λ few. rw (e, n) at (c.loop-j.invariant.2 (omega arith))
