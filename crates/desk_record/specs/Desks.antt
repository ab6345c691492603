-- The desk: a table of eight open recovery jobs. A handle is the session's key: the issue number u and the slot s, as 8u+s.
use Rattle.std.specs.Prelude.{Bool, not, ◌&&◌, ◌||◌, true, false, ℕ, ◌/◌, ◌%◌, ◌<◌, ◌≤◌, eqb, leb, get_or, set, replicate, ◌≡◌}
use Rattle.counting.specs.Test.{all_below, any_below}
use Rattle.desk_job.specs.declared.Job.{Job}
use Rattle.desk_record.specs.declared.Desk.{Desk}
use Rattle.desk_job.specs.Jobs.{empty_job, no_job, is_free, is_taken, is_sound_job}

-- "the desk with t 0 and all slots free [..]; every field of a slot that is free in it is zero"
unfoldable pub fresh_desk : Desk
fresh_desk = record { t = 0; jobs = replicate 8 empty_job }

-- the job in slot s
abbrev pub job_at : Desk → ℕ → Job
job_at desk s = get_or desk.jobs s no_job

-- a job put into slot s
abbrev pub with_job : Desk → ℕ → Job → Desk
with_job desk s job = record { t = desk.t; jobs = set desk.jobs s job }

-- the issue number u of a handle 8u+s
abbrev pub issue_of : ℕ → ℕ
issue_of handle = handle / 8

-- the slot s of a handle 8u+s
abbrev pub slot_of : ℕ → ℕ
slot_of handle = handle % 8

-- "u from 1 to t"
unfoldable pub is_issued : ℕ → ℕ → Bool
is_issued t u = leb 1 u && leb u t

-- slot s is free, or taken by a good job whose figures are those worked from its marks, with "a handle 8u+s with u from 1 to t"
unfoldable pub is_sound_slot : ℕ → ℕ → Job → Bool
is_sound_slot t s job = is_free job || is_taken job && is_sound_job job && eqb (slot_of job.handle) s && is_issued t (issue_of job.handle)

-- the job is taken under the issue number u
unfoldable pub has_issue : ℕ → Job → Bool
has_issue u job = is_taken job && eqb (issue_of job.handle) u

-- the issue number of slot s stands in a lower slot too
unfoldable pub is_twice : Desk → ℕ → Bool
is_twice desk s = is_taken (job_at desk s) && any_below s (λ r. has_issue (issue_of (job_at desk s).handle) (job_at desk r))

-- "A desk is sound if t is at most 65,535 and each taken slot s holds a good shape, its n marks of 0 or 1 with excess at most 2,
-- and a handle 8u+s with u from 1 to t, no u twice." Where stored figures differ from "those worked from the marks [..] a desk [..] is not sound".
unfoldable pub is_sound : Desk → Bool
is_sound desk =
    leb desk.t 65535
    && all_below 8 (λ s. is_sound_slot desk.t s (job_at desk s))
    && all_below 8 (λ s. not (is_twice desk s))

-- "A handle is open exactly if a taken slot holds it": its issue number is one of 1 to t, and the slot that it names is taken under it
unfoldable pub is_open : Desk → ℕ → Bool
is_open desk handle =
    is_issued desk.t (issue_of handle) && is_taken (job_at desk (slot_of handle)) && eqb (job_at desk (slot_of handle)).handle handle

-- the parts of soundness
pub record SoundRecord (desk : Desk) : Type 0 where
  pub few : desk.t ≤ 65535
  pub slots : (s : ℕ) → s < 8 → is_sound_slot desk.t s (job_at desk s) ≡ true
  pub once : (s : ℕ) → s < 8 → is_twice desk s ≡ false
