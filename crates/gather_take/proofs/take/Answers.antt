use Rattle.std.proofs.Common.{◌≡◌, refl, sym, ap, ◌∙◌, subst, ℕ, ◌+◌, ◌≤◌, arith, length, replicate}
use lib.ListN.{length-replicate}
use Rattle.answers.specs.Answers.{refused_number}
use Rattle.code.specs.LimitsLaws.{places-most}
use Rattle.gather_record.specs.declared.Gather.{Gather}
use Rattle.gather_record.specs.RecordLaws.{gives-refused}
use Rattle.gather_record.proofs.Laws.{whole}
use Rattle.gather_take.specs.Take.{take_of, taken}
use Rattle.gather_take.specs.TakeLaws.{Takeable, take-parts, put-part, part_length, gives-taken}
use Rattle.gather_take.proofs.take.Goals as goal

room : (first count : ℕ) (g : Gather) → Takeable first count g → first + count ≤ 240
room first count g t =
    let l = places-most t.opened.good in
    omega (arith, t.inside)

pub returns-in-Err : goal.returns-in-Err
unfolding take_of
returns-in-Err c =
    let a = c.args in
    gives-refused _ _ (sym (ap refused_number c.in-Err.is) ∙ c.take_refusal.ensures) (taken a.first a.bytes.now a.gather) a.gather

pub overflow_add-end : goal.overflow_add-end
overflow_add-end c = omega (arith, room _ _ _ (take-parts _ _ _ (sym c.take_refusal.ensures ∙ ap refused_number c.in_default.is)))

pub slice_bounds-kept-end : goal.slice_bounds-kept-end
slice_bounds-kept-end c =
    omega (
      arith,
      room _ _ _ (take-parts _ _ _ (sym c.take_refusal.ensures ∙ ap refused_number c.in_default.is)),
      (whole c.args.gather _ c.well_formed.0).bytes-long,
    )

pub slice_bounds-marks-end : goal.slice_bounds-marks-end
slice_bounds-marks-end c =
    omega (
      arith,
      room _ _ _ (take-parts _ _ _ (sym c.take_refusal.ensures ∙ ap refused_number c.in_default.is)),
      (whole c.args.gather _ c.well_formed.0).marks-long,
    )

pub returns : goal.returns
returns c =
    let a = c.args in
    let n = length a.bytes.now in
    let W = whole a.gather _ c.well_formed.0 in
    let u = sym c.take_refusal.ensures ∙ ap refused_number c.in_default.is in
    let s = room _ _ _ (take-parts _ _ _ (sym c.take_refusal.ensures ∙ ap refused_number c.in_default.is)) in
    let l = part_length a.first n a.gather.bytes (omega (arith, s, W.bytes-long)) in
    let j = part_length a.first n a.gather.marks (omega (arith, s, W.marks-long)) in
    gives-taken a.first a.bytes.now a.gather u _ _
    (put-part a.first a.bytes.now a.gather.bytes _ n refl (c.copy_from_slice.ensures.after))
    (put-part a.first (replicate n 0) a.gather.marks _ n (length-replicate n 0) (c.fill.ensures.after (λ y e. e) ∙ ap (λ i. replicate i 0) j))
