use Rattle.std.proofs.Common.{◌≡◌, refl, sym, ap, ◌∙◌, subst, true, List, ℕ, suc, ◌≤◌, ◌+◌, arith, length, get_or, w8, eq-eqb, ne_eqb}
use Rattle.counting.specs.Count.{count_below}
use Rattle.code.specs.Marks.{lost, lost_in}
use Rattle.byte_edition.specs.Edition.{byte_edition}
use Rattle.code_engine.specs.Elimination.{entry}
use Rattle.code_engine.proofs.Arrays.{array-system}
use Rattle.code_engine.specs.PositionsLaws.{lost-below}
use Rattle.block_constants.specs.Reduced.{ReducedTo}
use Rattle.block_constants.specs.ReducedLaws.{count-here, count_down, reduced-none, reduced-past, reduced-ext}
use Rattle.block_constants.specs.Equations.{equation_of}
use Rattle.block_constants.specs.EquationsLaws.{equations-step}
use Rattle.block_constants.proofs.group_rows.Goals as goal
use Rattle.block_constants.proofs.group_rows.Goals.{then-b-eq1+then-t-lt4, else-b-eq1, else-b-eq1-via-then-b-eq1+else-t-lt4, else-b-eq1-via-else-b-eq1}

pub loop-p-init : goal.loop-p-init
loop-p-init c = (
  omega arith,
  (array-system w8 16 6 c.equations-rows.result _ c.equations-rows.type_inv 6 (omega arith)).small,
  λ _. reduced-none byte_edition _ 6 _ _ _ (λ i l j h. refl),
)

pub loop-p-preserved : goal.loop-p-preserved
loop-p-preserved c =
    let a = c.args in
    let k : List ℕ = a.bound.now in
    let p : ℕ = c.loop-p.p in
    let t : ℕ = c.loop-p.t in
    let next : suc p ≡ p + 1 = omega arith in
    elim c.if-b-eq1.branch [
      | then-b-eq1+then-t-lt4 v ↦
          (let e : lost k p ≡ true = eq-eqb (get_or k p 0) 1 v.if-b-eq1.true in
          let r : c.if-b-eq1.rows ≡ v.pivot-next.result = v.rows-is in
          let n : c.if-b-eq1.t ≡ suc t = v.t-is ∙ omega arith in (
            omega arith,
            rw r (array-system w8 16 6 v.pivot-next.result _ v.pivot-next.type_inv 6 (omega arith)).small,
            λ few.
                (let low : count_below p (lost k) ≤ 4 = count_down k p 4 few in
                rw (r, n) (subst (λ i. ReducedTo byte_edition (length k) 6 k i (suc t) (entry c.equations-rows.result) (entry v.pivot-next.result)) next
                (equations-step a.first a.second k (length k) p t c.equations-rows.result c.loop-p.rows v.pivot-next.result (omega arith) (omega arith)
                (omega arith)
                v.if-t-lt4.true c.equations-rows.ensures (λ i l. c.loop-p.invariant.1 i l p) e (c.loop-p.invariant.2 low) v.pivot-next.ensures))),
          ))
      | else-b-eq1 v ↦ (
        rw v.t-is c.loop-p.invariant.0,
        rw v.rows-is c.loop-p.invariant.1,
        λ few.
            (let R = c.loop-p.invariant.2 (count_down k p 4 few) in
            elim v.else-b-eq1.branch [
              | else-b-eq1-via-then-b-eq1+else-t-lt4 w ↦
                  (let e : lost k p ≡ true = eq-eqb (get_or k p 0) 1 w.if-b-eq1.true in
                  let full : 4 ≤ t = w.if-t-lt4.false in
                  let m = R.count in
                  let h : count_below (p + 1) (lost k) ≡ suc (count_below p (lost k)) = ap (λ i. count_below i (lost k)) (sym next) ∙ count-here k p e in
                  absurd (omega arith))
              | else-b-eq1-via-else-b-eq1 w ↦
                  rw (v.rows-is, v.t-is) (subst (λ i. ReducedTo byte_edition (length k) 6 k i t (entry c.equations-rows.result) (entry c.loop-p.rows)) next
                  (reduced-past byte_edition (length k) 6 k p t _ _ (ne_eqb (get_or k p 0) 1 w.if-b-eq1.false) R))
            ]),
      )
    ]

pub returns : goal.returns
returns c =
    let a = c.args in
    let k : List ℕ = a.bound.now in
    let e : c.loop-p.p ≡ length k = omega arith in
    let n : count_below (length k) (lost k) ≡ lost_in (length k) k 0 = lost-below k (length k) in
    λ narrow wide few.
    let R = c.loop-p.invariant.2 (subst (λ i. i ≤ 4) (sym (ap (λ i. count_below i (lost k)) e ∙ n)) few) in
    subst (λ i. ReducedTo byte_edition (length k) 6 k (length k) i (equation_of a.first a.second) (entry c.loop-p.rows))
    (R.count ∙ ap (λ i. count_below i (lost k)) e ∙ n)
    (reduced-ext byte_edition (length k) 6 k (length k) c.loop-p.t (entry c.equations-rows.result) (equation_of a.first a.second) (entry c.loop-p.rows)
    (let l = c.loop-p.invariant.0 in omega arith) (λ i l j h. c.equations-rows.ensures i l j (omega arith))
    (subst (λ i. ReducedTo byte_edition (length k) 6 k i c.loop-p.t (entry c.equations-rows.result) (entry c.loop-p.rows)) e R))
