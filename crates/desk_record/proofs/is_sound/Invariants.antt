use Rattle.std.proofs.Common.{◌≡◌, true, false, cond, List, ℕ, ◌<◌, length, get_or}
use Rattle.desk_job.specs.declared.Job.{Job}
use Rattle.desk_job.specs.Jobs.{is_taken}
use Rattle.desk_record.specs.declared.Desk.{Desk}
use Rattle.desk_record.specs.Desks.{issue_of, is_sound_slot, is_twice, job_at}
use Rattle.desk_record.proofs.is_sound.Given as goal

-- the issue number under which a job is taken; 0 if it is not taken
abbrev pub issue_in : Job → ℕ
issue_in job = cond (is_taken job) (issue_of job.handle) 0

-- the numbers kept for the slots below s
abbrev pub Kept : Desk → ℕ → List ℕ → Type 0
Kept desk s issues = (length issues ≡ 8) × ((k : ℕ) → k < s → get_or issues k 0 ≡ issue_in (job_at desk k))

abbrev pub invariant-loop-s : goal.invariant-loop-s
invariant-loop-s l = Kept l.desk l.s l.issues × ((k : ℕ) → k < l.s → is_sound_slot l.t k (job_at l.desk k) ≡ true)
    × ((k : ℕ) → k < l.s → is_twice l.desk k ≡ false)
