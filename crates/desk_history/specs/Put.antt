-- Soundness is kept: a job put into a slot.
use Rattle.std.specs.Prelude.{◌≡◌, true, ℕ, ◌<◌, length, set}
use Rattle.desk_job.specs.declared.Job.{Job}
use Rattle.desk_record.specs.declared.Desk.{Desk}
use Rattle.desk_record.specs.Desks.{job_at, issue_of}
use Rattle.desk_job.specs.Jobs.{is_taken}

-- "no u twice"
abbrev pub Unique : Desk → Type 0
Unique desk = (r s : ℕ) → r < s → s < 8 → is_taken (job_at desk r) ≡ true → is_taken (job_at desk s) ≡ true
    → issue_of (job_at desk r).handle ≡ issue_of (job_at desk s).handle → ⊥

-- A desk with a job put into slot s, and another t.
abbrev pub put : Desk → ℕ → ℕ → Job → Desk
put desk t s job = record { t = t; jobs = set desk.jobs s job }

module _ (desk : Desk) (size : length desk.jobs ≡ 8) (t s : ℕ) (l : s < 8) (job : Job) where
  -- the job is not taken under an issue number of another slot
  abbrev pub Apart : Type 0
  Apart = (r : ℕ) → r < 8 → (r ≡ s → ⊥) → is_taken job ≡ true → is_taken (job_at desk r) ≡ true → issue_of (job_at desk r).handle ≡ issue_of job.handle → ⊥
