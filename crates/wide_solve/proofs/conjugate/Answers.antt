use Rattle.std.proofs.Common.{◌≡◌, sym, ap, ◌∙◌, List, ℕ, ◌%◌, ◌<◌, arith, length, get_or}
use Rattle.binary_field.specs.XorLaws.{⊕-bits, ⊕-zero-l}
use Rattle.binary_field.specs.Inverse.{linear_map}
use Rattle.wide_solve.specs.NormLaws.{row-size, conjugate-is, map-set, map-clear, map-end}
use Rattle.wide_solve.proofs.conjugate.Goals as goal
use Rattle.wide_solve.proofs.conjugate.Goals.{then-rest-eq1, else-rest-eq1}

pub loop-x-init : goal.loop-x-init
loop-x-init c = ⊕-zero-l _

pub loop-x-preserved : goal.loop-x-preserved
loop-x-preserved c =
    let l = c.loop-x in
    let row : List ℕ = c.conjugates-row.result in
    let i : ℕ = l.x-index in
    let h : i < length row = omega (arith, ap length c.conjugates-row.ensures ∙ row-size) in
    elim c.if-rest-eq1.branch [
      | then-rest-eq1 w ↦ (cc (⊕-bits l.sum (get_or row i 0), map-set row i h l.sum l.rest w.if-rest-eq1.true))
      | else-rest-eq1 w ↦ (let z : l.rest % 2 ≡ 0 = omega (arith, w.if-rest-eq1.false) in cc (map-clear row i h l.sum l.rest z))
    ]

pub returns : goal.returns
returns c =
    let l = c.loop-x in
    let a : ℕ = c.args.a in
    let row : List ℕ = c.conjugates-row.result in
    sym (map-end row l.x-index l.sum l.rest (omega arith)) ∙ l.invariant ∙ ap (λ r. linear_map r a) c.conjugates-row.ensures
    ∙ conjugate-is a (omega arith)
