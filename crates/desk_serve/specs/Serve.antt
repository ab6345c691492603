-- What Serve answers, and what the desk and the word hold then.
use Rattle.std.specs.Prelude.{◌≡◌, not, cond, List, ℕ, zero, suc, ◌+◌, eqb, length, Result}
use Rattle.code.specs.Refusals.{refuse, ◌or_else◌}
use Rattle.code.specs.Outcome.{Outcome}
use Rattle.code.specs.Limits.{place_count}
use Rattle.byte_edition.specs.Edition.{byte_edition}
use Rattle.code_services.specs.Recover.{recover_in}
use Rattle.desk_job.specs.declared.Job.{Job}
use Rattle.desk_record.specs.declared.Desk.{Desk}
use Rattle.answers.specs.declared.Refusal.{Refusal}
use Rattle.answers.specs.Answers.{mending_at, mending_number, mending_group}
use Rattle.desk_record.specs.Desks.{job_at, with_job, slot_of}
use Rattle.desk_job.specs.Jobs.{job_marks}
use Rattle.desk_record.specs.Refusal.{handle_refusal}

-- the recovery of a word "by the job's marks"
abbrev pub job_recovery : Job → List ℕ → Outcome
job_recovery job word = recover_in byte_edition job.m job.w job.c word (job_marks job)

-- of a job, after 31 and 12: 5 "a lent length is not [..] n"; 13 "served count is at its end"; 9 "contradictory"
unfoldable pub job_number : Job → List ℕ → ℕ
job_number job word =
    refuse 5 (not (eqb (length word) (place_count job.m job.w)))
    or_else refuse 13 (eqb job.served 4294967295)
    or_else (job_recovery job word).number

-- 31, 12, and then what the job says
unfoldable pub serve_number : ℕ → List ℕ → Desk → ℕ
serve_number handle word desk = handle_refusal handle desk or_else job_number (job_at desk (slot_of handle)) word

-- "adds one to the job's served count"; its marks and figures stay
abbrev pub served_once : Job → Job
served_once job = record {
  taken = job.taken;
  m = job.m;
  w = job.w;
  c = job.c;
  served = job.served + 1;
  handle = job.handle;
  marks = job.marks;
  lost = job.lost;
  excess = job.excess;
}

-- "A 9 now carries a group number"; with any other number it is 0
abbrev pub group_of_nine : ℕ → ℕ → ℕ
group_of_nine number group = cond (eqb number 9) group 0

-- A number given back, 0 for done, the group that a 9 carries, and the word and the desk then.
pub record Serving : Type 0 where
  pub number : ℕ
  pub group : ℕ
  pub word : List ℕ
  pub desk : Desk

-- by its number: the recovered word and the count raised, or all as it was
abbrev pub serve_by : ℕ → ℕ → List ℕ → Desk → Serving
serve_by zero handle word desk = record {
  number = 0;
  group = 0;
  word = (job_recovery (job_at desk (slot_of handle)) word).word;
  desk = with_job desk (slot_of handle) (served_once (job_at desk (slot_of handle)));
}
serve_by (suc r) handle word desk = record {
  number = suc r;
  group = group_of_nine (suc r) (job_recovery (job_at desk (slot_of handle)) word).group;
  word = word;
  desk = desk;
}

-- the whole call
unfoldable pub serve_of : ℕ → List ℕ → Desk → Serving
serve_of handle word desk = serve_by (serve_number handle word desk) handle word desk

-- what Serve leaves and answers
pub record ServeGives (o : Serving) (word : List ℕ) (desk : Desk) (answer : Result Unit Refusal) : Type 0 where
  pub word-is : word ≡ o.word
  pub desk-is : desk ≡ o.desk
  pub answer-is : answer ≡ mending_at o.number o.group
  pub number_is : mending_number answer ≡ o.number
  pub group-is : mending_group answer ≡ o.group
