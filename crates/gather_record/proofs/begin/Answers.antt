use Rattle.std.proofs.Common.{sym, ap, ◌∙◌, arith}
use Rattle.shape.specs.Shapes.{byte_limits}
use Rattle.code.specs.LimitsLaws.{good-of-refusal}
use Rattle.answers.specs.Answers.{refused_number}
use Rattle.gather_record.specs.Record.{begin_of, begun}
use Rattle.gather_record.specs.RecordLaws.{gives-refused, gives-done}
use Rattle.gather_record.proofs.begin.Goals as goal

pub returns-in-Err : goal.returns-in-Err
unfolding begin_of
returns-in-Err c =
    let a = c.args in
    gives-refused _ _ (sym (ap refused_number c.in-Err.is) ∙ c.shape_refusal.ensures) (begun a.m a.w a.c) a.gather

pub overflow_cast-new : goal.overflow_cast-new
overflow_cast-new c = let g = good-of-refusal {L = byte_limits} _ _ _ (sym (sym (ap refused_number c.in_default.is) ∙ c.shape_refusal.ensures)) in omega arith

pub overflow_cast-new-2 : goal.overflow_cast-new-2
overflow_cast-new-2 c = let g = good-of-refusal {L = byte_limits} _ _ _ (sym (sym (ap refused_number c.in_default.is) ∙ c.shape_refusal.ensures)) in omega arith

pub overflow_cast-new-3 : goal.overflow_cast-new-3
overflow_cast-new-3 c = let g = good-of-refusal {L = byte_limits} _ _ _ (sym (sym (ap refused_number c.in_default.is) ∙ c.shape_refusal.ensures)) in omega arith

pub returns : goal.returns
unfolding begin_of begun
returns c =
    let a = c.args in
    gives-done _ (sym (sym (ap refused_number c.in_default.is) ∙ c.shape_refusal.ensures)) (begun a.m a.w a.c) a.gather
