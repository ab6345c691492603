use Rattle.std.proofs.Common.{sym, ap, ◌∙◌}
use Rattle.std.specs.Prelude.{is_some}
use Rattle.block_input.specs.HeadLaws.{marks-unread, marks-room, marks-read}
use Rattle.block_input.proofs.read_marks.Goals as goal

pub returns-in_default : goal.returns-in_default
returns-in_default c =
    let a = c.args in
    marks-unread a.line.now a.m a.w a.c (sym (ap is_some c.in_default.is) ∙ c.read_numbers.ensures.read) _

pub slice_bounds-marks-end : goal.slice_bounds-marks-end
slice_bounds-marks-end c =
    let a = c.args in
    marks-room a.line.now a.m a.w a.c c.in-Some.numbers c.in-Some.ensures.values

pub returns : goal.returns
returns c =
    let a = c.args in
    marks-read a.line.now a.m a.w a.c c.in-Some.numbers c.in-Some.ensures.values c.in-Some.ensures.read _
    (c.number.ensures ∙ c.marks_refusal.ensures)
