-- What Lose and Find answer, and what the desk holds then: "Let a job take "place lost" and "place found" by handle."
use Rattle.std.specs.Prelude.{ℕ, leb, ltb, set}
use Rattle.code.specs.Refusals.{refuse, ◌or_else◌}
use Rattle.code.specs.Limits.{place_count}
use Rattle.desk_job.specs.declared.Job.{Job}
use Rattle.desk_record.specs.declared.Desk.{Desk}
use Rattle.desk_job.specs.Jobs.{with_marks}
use Rattle.desk_record.specs.Desks.{job_at, with_job, slot_of}
use Rattle.desk_record.specs.Refusal.{handle_refusal}
use Rattle.desk_record.specs.Calls.{Changing, changing_by}

-- "sets that place's mark and these figures": the job with that mark 1 for lost or 0 for found; marks past n and all other fields stay
abbrev pub changed : ℕ → ℕ → Job → Job
changed mark place job = with_marks job (set job.marks place mark)

-- of a job: "25 place is n or more"
abbrev pub past : ℕ → Job → ℕ
past place job = refuse 25 (leb (place_count job.m job.w) place)

-- after 31 and 12: 25, then 8 for a change "that would bring excess above 2"
unfoldable pub place_number : ℕ → ℕ → Job → ℕ
place_number mark place job = past place job or_else refuse 8 (ltb 2 (changed mark place job).excess)

-- 31, 12, and then what the job says
unfoldable pub change_number : ℕ → ℕ → ℕ → Desk → ℕ
change_number mark handle place desk = handle_refusal handle desk or_else place_number mark place (job_at desk (slot_of handle))

-- 31, 12, 25: the refusals of both calls before the excess is looked at
unfoldable pub place_refusal : ℕ → ℕ → Desk → ℕ
place_refusal handle place desk = handle_refusal handle desk or_else past place (job_at desk (slot_of handle))

-- by its number: the desk with that job changed, or the desk as it was
abbrev pub change_by : ℕ → ℕ → ℕ → ℕ → Desk → Changing
change_by r mark handle place desk = changing_by r (with_job desk (slot_of handle) (changed mark place (job_at desk (slot_of handle)))) desk

-- the whole call
unfoldable pub change_of : ℕ → ℕ → ℕ → Desk → Changing
change_of mark handle place desk = change_by (change_number mark handle place desk) mark handle place desk

-- "place lost"
abbrev pub lose_of : ℕ → ℕ → Desk → Changing
lose_of = change_of 1

-- "place found"
abbrev pub find_of : ℕ → ℕ → Desk → Changing
find_of = change_of 0
