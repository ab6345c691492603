use Rattle.std.proofs.Common.{sym, ap, ◌∙◌, subst, Ok}
use Rattle.answers.specs.Answers.{refused_number}
use Rattle.desk_job.specs.declared.Job.{Job}
use Rattle.desk_record.specs.Desks.{with_job, slot_of}
use Rattle.desk_record.specs.Refusal.{handle_refusal}
use Rattle.desk_record.specs.Calls.{ChangeGives}
use Rattle.desk_record.specs.CallsLaws.{call-refused, call-done}
use Rattle.desk_close.specs.Close.{close_of}
use Rattle.desk_close.proofs.close.Goals as goal

pub returns-in-Err : goal.returns-in-Err
unfolding close_of
returns-in-Err c =
    let a = c.args in
    call-refused (handle_refusal a.handle a.desk) _ (sym (ap refused_number c.in-Err.is) ∙ c.handle_refusal.ensures) _ a.desk

pub returns : goal.returns
unfolding close_of
returns c =
    let a = c.args in
    let e = sym c.handle_refusal.ensures ∙ ap refused_number c.in_default.is in
    subst (λ (j : Job). ChangeGives (close_of a.handle a.desk) (with_job a.desk (slot_of a.handle) j) (Ok tt)) (sym c.empty.ensures)
    (call-done (handle_refusal a.handle a.desk) e _ a.desk)
