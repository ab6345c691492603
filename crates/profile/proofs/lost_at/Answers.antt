use Rattle.std.proofs.Common.{◌≡◌, sym, ap, ◌∙◌, Bool, true, false, ℕ, suc, ◌+◌, ◌*◌, ◌<◌, ◌≤◌, mul-le-mul_right, suc-mul, arith, eq-eqb, ne_eqb, get_or}
use Rattle.counting.specs.Count.{count_below}
use Rattle.counting.specs.CountLaws.{total-none}
use Rattle.code.specs.Marks.{lost}
use Rattle.code_engine.specs.GroupsLaws.{count_turn}
use Rattle.profile.specs.Search.{lost_at}
use Rattle.profile.proofs.lost_at.Goals as goal
use Rattle.profile.proofs.lost_at.Goals.{then-marks-g-eq1, else-marks-g-eq1}

-- place j of group g lies within the marks
fits : (m w j g len : ℕ) → g < m → j < w → len ≡ m * w → g * w + j < len
fits m w j g len l k e = let h : suc g * w ≤ m * w = mul-le-mul_right w l in let s = suc-mul g w in omega arith

pub loop-g-init : goal.loop-g-init
loop-g-init c = (omega arith, sym (total-none _))

pub loop-g-preserved : goal.loop-g-preserved
loop-g-preserved c =
    let a = c.args in
    let g = c.loop-g.g in
    let f : ℕ → Bool = λ i. lost a.marks.now (i * a.w + a.j) in
    elim c.if-marks-g-eq1.branch [
      | then-marks-g-eq1 t ↦ (let k = count_turn g f true (eq-eqb (get_or a.marks.now (g * a.w + a.j) 0) 1 t.if-marks-g-eq1.true) in (omega arith, omega arith))
      | else-marks-g-eq1 t ↦ (let k = count_turn g f false (ne_eqb (get_or a.marks.now (g * a.w + a.j) 0) 1 t.if-marks-g-eq1.false) in (omega arith, omega arith))
    ]

pub returns : goal.returns
unfolding lost_at
returns c =
    let a = c.args in
    let e : c.loop-g.g ≡ a.m = omega arith in
    c.loop-g.invariant.1 ∙ ap (λ n. count_below n (λ g. lost a.marks.now (g * a.w + a.j))) e
