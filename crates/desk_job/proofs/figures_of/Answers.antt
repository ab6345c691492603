use Rattle.std.proofs.Common.{◌≡◌, refl, sym, ap, ap₂, ◌∙◌, subst, ◌-◌, ◌*◌, ◌≤◌, le_trans, arith, ℕ, ◌+◌, ◌<◌, List, length, take, drop, set}
use Rattle.code.specs.LentLaws.{lent, end_fits, part-narrow}
use Rattle.code.specs.LimitsLaws.{word-of-good}
use Rattle.code_engine.specs.GroupsLaws.{excess-none, excess-turn, lost-most}
use Rattle.desk_job.specs.FiguresLaws.{counts-none, counts-turn}
use Rattle.shape.specs.Shapes.{byte_limits}
use Rattle.code.specs.Lent.{LentIn}
use Rattle.code.specs.Marks.{lost_in}
use Rattle.code.specs.Marks as Marks
use Rattle.answers.specs.AnswersLaws.{number-ok, number-err}
use Rattle.desk_job.proofs.figures_of.Goals as goal

pub returns-then-is_err : goal.returns-then-is_err
returns-then-is_err c =
    let a = c.args in
    record {
      value = λ good size.
          absurd (number-err c.word_refusal.result (sym c.is_err.ensures.value ∙ c.if-is_err.true)
          (c.word_refusal.ensures ∙ word-of-good a.m a.w a.c (length a.marks.now) good size));
      value_2 = λ _. refl;
    }

pub loop-g-init : goal.loop-g-init
loop-g-init c =
    let a = c.args in
    let z = excess-none a.w a.c a.marks.now in
    let e = sym c.word_refusal.ensures ∙ number-ok c.word_refusal.result (sym c.is_err.ensures.value ∙ c.if-is_err.false) in
    (lent a.m a.w a.c a.marks.now e, omega arith, counts-none a.w a.marks.now, omega arith)

-- a stretch has at most 16 places
few : {m w c : ℕ} {marks : List ℕ} (L : LentIn byte_limits m w c marks) (g : ℕ) → g < m → (l : ℕ)
    → l ≡ lost_in (length (take (g * w + w - g * w) (drop (g * w) marks))) (take (g * w + w - g * w) (drop (g * w) marks)) 0 → l ≤ 16
few L g h l e = subst (λ n. n ≤ 16) (sym e) (le_trans (lost-most _ _ 0) (part-narrow L g h refl))

pub overflow_cast-lost : goal.overflow_cast-lost
overflow_cast-lost c =
    let f = few c.loop-g.invariant.0 c.loop-g.g c.loop-g-test.true c.lost_in-l.result c.lost_in-l.ensures in
    omega arith

pub overflow_add-excess : goal.overflow_add-excess
overflow_add-excess c =
    let f = few c.loop-g.invariant.0 c.loop-g.g c.loop-g-test.true c.lost_in-l.result c.lost_in-l.ensures in
    omega arith

pub loop-g-preserved : goal.loop-g-preserved
loop-g-preserved c =
    let a = c.args in
    let L = c.loop-g.invariant.0 in
    let g : ℕ = c.loop-g.g in
    let f = few L g c.loop-g-test.true c.lost_in-l.result c.lost_in-l.ensures in
    let n = ap (λ n. n - a.c) c.lost_in-l.ensures in
    let e = excess-turn a.w a.c a.marks.now g (g * a.w) refl (end_fits L g c.loop-g-test.true) refl in
    let k = ap₂ (λ x n. set x g n) c.loop-g.invariant.2 c.lost_in-l.ensures ∙ counts-turn L g c.loop-g-test.true refl in
    (L, omega arith, k, omega arith)
