use Rattle.std.proofs.Common.{sym, ap, ◌∙◌, Ok, subst, le_trans, arith}
use Rattle.desk_job.specs.declared.Job.{Job}
use Rattle.desk_record.specs.Desks.{job_at, with_job, slot_of}
use Rattle.answers.specs.Answers.{refused_number}
use Rattle.desk_record.specs.Calls.{ChangeGives}
use Rattle.desk_change.specs.Change.{change_of}
use Rattle.desk_change.proofs.ChangeLaws.{refusal-parts, few, found-few, place-done, gives-refused, open-sound, gives-done}
use Rattle.desk_change.proofs.find.Goals as goal

pub returns-in-Err : goal.returns-in-Err
returns-in-Err c =
    let a = c.args in
    gives-refused 0 a.handle a.place a.desk _ (sym (ap refused_number c.in-Err.is) ∙ c.place_refusal.ensures)

pub with_mark-then-requires : goal.with_mark-then-requires
with_mark-then-requires c =
    let a = c.args in
    let P = refusal-parts a.handle a.place a.desk (sym c.place_refusal.ensures ∙ ap refused_number c.in_default.is) in
    (open-sound 0 a.handle a.place a.desk P.0, P.1, omega arith)

pub returns : goal.returns
returns c =
    let a = c.args in
    let P = refusal-parts a.handle a.place a.desk (sym c.place_refusal.ensures ∙ ap refused_number c.in_default.is) in
    let j = job_at a.desk (slot_of a.handle) in
    let s = open-sound 0 a.handle a.place a.desk P.0 in
    subst (λ (x : Job). ChangeGives (change_of 0 a.handle a.place a.desk) (with_job a.desk (slot_of a.handle) x) (Ok tt))
    (sym c.with_mark-then.ensures)
    (gives-done 0 a.handle a.place a.desk P.0 (place-done 0 a.place j P.1
    (le_trans (found-few j s a.place P.1) (few j s a.place P.1))))
