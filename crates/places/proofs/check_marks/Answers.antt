use Rattle.std.proofs.Common.{sym, ◌∙◌, length}
use Rattle.answers.specs.AnswersLaws.{passed}
use Rattle.code_services.specs.Places.{check_marks, check_marks_refusal_in, check_marks_answer_in, check_marks_buffer_in}
use Rattle.code_services.specs.PlainLaws.{check-marks-plain}
use Rattle.code_loops.specs.EndsLaws.{leaves-refused, leaves-done}
use Rattle.code_loops.specs.EncodeLaws.{checks-made}
use Rattle.places.proofs.check_marks.Goals as goal

pub returns-in_err-check_marks_refusal : goal.returns-in_err-check_marks_refusal
unfolding check_marks_answer_in check_marks_buffer_in
returns-in_err-check_marks_refusal g c =
    let a = c.args in
    let h = leaves-refused (check_marks a.m a.w a.c) a.marks.now c.in_err-check_marks_refusal.ensures (check-marks-plain g.E.Edition.limits a.m a.w a.c _) in
    rw (passed c.from_residual.ensures) record { answer = h.0; number = h.1.0; marks = h.1.1 }

pub returns : goal.returns
unfolding check_marks_answer_in check_marks_buffer_in
returns g c =
    let a = c.args in
    let z = sym c.in_ok-check_marks_refusal.ensures in
    let h = leaves-done a.marks.now z (c.mark_groups.ensures ∙ checks-made g.E.Edition.limits a.m a.w a.c a.marks.now z) in
    record { answer = h.0; number = h.1.0; marks = h.1.1 }
