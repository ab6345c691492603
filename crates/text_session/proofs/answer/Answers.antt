use Rattle.std.proofs.Common.{sym, ap, ◌∙◌, arith, length-take-le}
use Rattle.text_lines.specs.Kinds.{record_number}
use Rattle.text_lines.specs.HeldLaws.{rooms}
use Rattle.text_session.specs.LinesLaws.{turn-unreadable, turn-shape, turn-unset, turn-data, turn-word}
use Rattle.text_session.proofs.answer.Goals as goal

pub returns-in_default : goal.returns-in_default
returns-in_default c = turn-unreadable _ _ _ _ _ (sym (ap record_number c.in_default.is) ∙ c.parse.ensures.kind) c.refuse.ensures

pub returns-in-Shape : goal.returns-in-Shape
returns-in-Shape c =
    let p = c.in-Some in
    turn-shape _ _ _ _ _ p.record p.ensures.kind p.ensures.values c.in-Shape.is
    (rw (c.from.ensures, c.from-in-Shape.ensures, c.from-in-Shape-2.ensures) at c.answer_shape.ensures)

pub returns-then-m-eq0 : goal.returns-then-m-eq0
returns-then-m-eq0 c =
    let p = c.in-Some in
    turn-unset _ _ _ _ _ p.record p.ensures.kind p.ensures.values c.in_default-kind.not-Shape c.if-m-eq0.true c.refuse-then-m-eq0.ensures

pub slice_bounds-bytes-end : goal.slice_bounds-bytes-end
slice_bounds-bytes-end c = let r = rooms _ c.in-Some.record c.in-Some.ensures.values in omega arith

pub slice_bounds-answer_data-end : goal.slice_bounds-answer_data-end
slice_bounds-answer_data-end c = let r = rooms _ c.in-Some.record c.in-Some.ensures.values in sym (length-take-le _ _ (omega arith))

pub returns-in-Data : goal.returns-in-Data
returns-in-Data c =
    let p = c.in-Some in
    turn-data _ _ _ _ _ p.record p.ensures.kind p.ensures.values c.if-m-eq0.false c.in-Data.is c.answer_data.ensures

pub slice_bounds-bytes-end-in_default-kind-2 : goal.slice_bounds-bytes-end-in_default-kind-2
slice_bounds-bytes-end-in_default-kind-2 c = let r = rooms _ c.in-Some.record c.in-Some.ensures.values in omega arith

pub slice_bounds-answer_word-end : goal.slice_bounds-answer_word-end
slice_bounds-answer_word-end c = let r = rooms _ c.in-Some.record c.in-Some.ensures.values in sym (length-take-le _ _ (omega arith))

pub slice_bounds-marks-end : goal.slice_bounds-marks-end
slice_bounds-marks-end c = let r = rooms _ c.in-Some.record c.in-Some.ensures.values in omega arith

pub slice_bounds-answer_word-end-in_default-kind-2 : goal.slice_bounds-answer_word-end-in_default-kind-2
slice_bounds-answer_word-end-in_default-kind-2 c = let r = rooms _ c.in-Some.record c.in-Some.ensures.values in sym (length-take-le _ _ (omega arith))

pub returns-in_default-kind-2 : goal.returns-in_default-kind-2
returns-in_default-kind-2 c =
    let p = c.in-Some in
    turn-word _ _ _ _ _ p.record p.ensures.kind p.ensures.values c.if-m-eq0.false
    c.in_default-kind.not-Shape c.in_default-kind-2.not-Data c.answer_word.ensures
