use Rattle.std.proofs.Common.{◌≡◌, refl, ℕ, ◌≤◌, sym, ap, ap₂, ◌∙◌, Bool, true, false, arith, lt-ltb, le-ltb, eq-eqb, ne_eqb, eqb, ltb}
use Rattle.code.specs.Refusals.{refuse, ◌or_else◌}
use Rattle.shape.specs.Shapes.{byte_limits}
use Rattle.code.specs.Limits.{GoodIn, shape_refusal_in}
use Rattle.code_services.specs.Marks.{marks_refusal_in}
use Rattle.code.specs.LimitsLaws.{good-of-refusal, places-most}
use Rattle.answers.specs.Answers.{refused_number}
use Rattle.answers.specs.AnswersLaws.{refusal-some, passed}
use Rattle.gather_record.specs.declared.Gather.{Gather}
use Rattle.gather_record.specs.Record.{Whole, gather_refusal, gather_marks}
use Rattle.gather_record.specs.RecordLaws.{shape-bad, marks-size, marks-bad, record-good}
use Rattle.gather_record.proofs.Laws.{whole}
use Rattle.gather_record.proofs.refusal.Goals as goal

-- what a shape that is not refused tells
good : (g : Gather) {r : ℕ} → r ≡ shape_refusal_in byte_limits g.m g.w g.c → r ≡ 0 → GoodIn byte_limits g.m g.w g.c
good g e z = good-of-refusal _ _ _ (sym e ∙ z)

-- the shape is good, and the marks are
fair : (g : Gather) (r s : ℕ) → Whole g → r ≡ shape_refusal_in byte_limits g.m g.w g.c → r ≡ 0
    → s ≡ marks_refusal_in byte_limits g.m g.w g.c (gather_marks g) → s ≡ 0
    → gather_refusal g ≡ refuse 6 (ltb 1 g.finished) or_else refuse 22 (eqb g.finished 1)
fair g r s W e z d y = record-good g (good g e z) W (sym d ∙ y)

-- the finished byte is 0 or 1
byte : (g : Gather) → gather_refusal g ≡ refuse 6 (ltb 1 g.finished) or_else refuse 22 (eqb g.finished 1) → g.finished ≤ 1
    → (v : Bool) → eqb g.finished 1 ≡ v → gather_refusal g ≡ refuse 22 v
byte g f l v e = f ∙ ap₂ (λ a b. refuse 6 a or_else refuse 22 b) (le-ltb 1 g.finished l) e

pub returns-in_err-shape_refusal : goal.returns-in_err-shape_refusal
returns-in_err-shape_refusal c =
    let e = c.in_err-shape_refusal.ensures in
    ap refused_number (passed c.from_residual.ensures) ∙ e ∙ sym (shape-bad c.args.gather (λ z. refusal-some _ (e ∙ z)))

pub slice_bounds-marks-end : goal.slice_bounds-marks-end
slice_bounds-marks-end c =
    let l = places-most (good c.args.gather c.in_ok-shape_refusal.ensures refl) in
    omega (arith, (whole c.args.gather _ c.well_formed.0).marks-long)

pub slice_bounds-marks_refusal-end : goal.slice_bounds-marks_refusal-end
slice_bounds-marks_refusal-end c =
    sym (marks-size c.args.gather (good c.args.gather c.in_ok-shape_refusal.ensures refl) (whole c.args.gather _ c.well_formed.0))

pub returns-in_err-marks_refusal : goal.returns-in_err-marks_refusal
returns-in_err-marks_refusal c =
    let e = c.in_err-marks_refusal.ensures in
    let g = good c.args.gather c.in_ok-shape_refusal.ensures refl in
    ap refused_number (passed c.from_residual-in_err-marks_refusal.ensures) ∙ e
    ∙ sym (marks-bad c.args.gather g (whole c.args.gather _ c.well_formed.0) (λ z. refusal-some _ (e ∙ z)))

pub returns-then-gather-gt1 : goal.returns-then-gather-gt1
returns-then-gather-gt1 c =
    let g = c.args.gather in
    rw (
      fair g _ _ (whole g _ c.well_formed.0) c.in_ok-shape_refusal.ensures refl c.in_ok-marks_refusal.ensures refl,
      lt-ltb 1 g.finished c.if-gather-gt1.true,
    )

pub returns-then-gather-eq1 : goal.returns-then-gather-eq1
returns-then-gather-eq1 c =
    let g = c.args.gather in
    let f = fair g _ _ (whole g _ c.well_formed.0) c.in_ok-shape_refusal.ensures refl c.in_ok-marks_refusal.ensures refl in
    sym (byte g f (omega arith) true (eq-eqb _ 1 c.if-gather-eq1.true))

pub returns-else-gather-eq1 : goal.returns-else-gather-eq1
returns-else-gather-eq1 c =
    let g = c.args.gather in
    let f = fair g _ _ (whole g _ c.well_formed.0) c.in_ok-shape_refusal.ensures refl c.in_ok-marks_refusal.ensures refl in
    sym (byte g f (omega arith) false (ne_eqb _ 1 c.if-gather-eq1.false))
