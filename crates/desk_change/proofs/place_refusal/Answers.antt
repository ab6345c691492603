use Rattle.std.proofs.Common.{sym, ap, ◌∙◌, ◌*◌, arith, le-leb}
use borrow.Author.Tests.{lt-leb}
use Rattle.code.specs.Refusals.{refuse, ◌or_else◌}
use Rattle.answers.specs.Answers.{refused_number}
use Rattle.answers.specs.AnswersLaws.{passed, else-first}
use Rattle.desk_job.specs.JobLaws.{good-places}
use Rattle.desk_record.specs.Desks.{job_at, slot_of}
use Rattle.desk_record.specs.RefusalLaws.{open-good}
use Rattle.desk_change.specs.Change.{past, place_refusal}
use Rattle.desk_change.proofs.place_refusal.Goals as goal

pub returns-in_err-handle_refusal : goal.returns-in_err-handle_refusal
unfolding place_refusal
returns-in_err-handle_refusal c = ap refused_number (passed c.from_residual.ensures) ∙ else-first _ c.in_err-handle_refusal.ensures _

pub overflow_mul-n : goal.overflow_mul-n
overflow_mul-n c =
    let a = c.args in
    let l = good-places (job_at a.desk (slot_of a.handle)) (open-good a.handle a.desk (sym c.in_ok-handle_refusal.ensures)) in
    omega arith

pub returns-then-n-place : goal.returns-then-n-place
unfolding place_refusal
returns-then-n-place c =
    let a = c.args in
    let j = job_at a.desk (slot_of a.handle) in
    sym (ap (λ n. n or_else past a.place j) (sym c.in_ok-handle_refusal.ensures) ∙ ap (refuse 25) (le-leb (j.m * j.w) a.place c.if-n-place.true))

pub returns-else-n-place : goal.returns-else-n-place
unfolding place_refusal
returns-else-n-place c =
    let a = c.args in
    let j = job_at a.desk (slot_of a.handle) in
    sym (ap (λ n. n or_else past a.place j) (sym c.in_ok-handle_refusal.ensures) ∙ ap (refuse 25) (lt-leb (j.m * j.w) a.place c.if-n-place.false))
