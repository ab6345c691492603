-- On a desk grown from fresh by any list of calls, refused ones included, the desk and the ledger agree.
use Rattle.std.specs.Prelude.{◌≡◌, true, false, not, List, ℕ, ◌<◌, ◌≤◌, length}
use Rattle.counting.specs.Sets.{is_in}
use Rattle.code.specs.Refusals.{refuse}
use Rattle.byte_edition.specs.Edition.{byte_edition}
use Rattle.code_services.specs.Recover.{recover_in}
use Rattle.desk_record.specs.declared.Desk.{Desk}
use Rattle.desk_record.specs.Desks.{job_at, issue_of, slot_of, is_sound, is_open, SoundRecord}
use Rattle.desk_record.specs.Refusal.{handle_refusal}
use Rattle.desk_close.specs.Read.{read_of}
use Rattle.code.specs.Marks.{excess}
use Rattle.desk_job.specs.Figures.{lost_counts}
use Rattle.desk_job.specs.declared.Job.{Job}
use Rattle.desk_job.specs.Jobs.{job_marks}
use Rattle.desk_serve.specs.Serve.{job_recovery}
use Rattle.desk_history.specs.History.{Ledger, Pattern, is_distinct, is_live, serves_of, pattern_of}

-- the shape and the n marks of a job, under its handle
abbrev pub pattern_for : ℕ → Job → Pattern
pattern_for h job = record { handle = h; m = job.m; w = job.w; c = job.c; marks = job_marks job }

-- what the desk and the ledger keep
pub record Kept (desk : Desk) (ledger : Ledger) : Type 0 where
  pub size : length desk.jobs ≡ 8
  pub sound : SoundRecord desk
  pub live : (h : ℕ) → is_open desk h ≡ is_live ledger h
  pub numbers : (h : ℕ) → is_in h ledger.issued ≡ true → (1 ≤ issue_of h) × (issue_of h ≤ desk.t)
  pub distinct : is_distinct ledger.issued ≡ true
  pub count : length ledger.issued ≡ desk.t
  pub shut : (h : ℕ) → is_in h ledger.closed ≡ true → is_in h ledger.issued ≡ true
  pub counted : (h : ℕ) → is_open desk h ≡ true → (job_at desk (slot_of h)).served ≡ serves_of ledger h
  pub early : (h : ℕ) → is_in h ledger.issued ≡ false → serves_of ledger h ≡ 0
  pub most : (h : ℕ) → is_open desk h ≡ true → (job_at desk (slot_of h)).served ≤ 4294967295
  pub marked : (h : ℕ) → is_open desk h ≡ true → pattern_for h (job_at desk (slot_of h)) ≡ pattern_of ledger h

-- What a desk and its ledger agree on.
pub record DeskAgrees (desk : Desk) (ledger : Ledger) : Type 0 where
  -- the desk is sound
  pub sound : is_sound desk ≡ true
  -- a handle is open "exactly if it was issued and not closed"
  pub exact : (h : ℕ) → is_open desk h ≡ is_live ledger h
  -- so a call on any other handle is refused 12, and on these it is not
  pub refusal : (h : ℕ) → handle_refusal h desk ≡ refuse 12 (not (is_live ledger h))
  -- "no number is issued twice"
  pub once : is_distinct ledger.issued ≡ true
  -- "0 to 7 are never issued"
  pub never : (h : ℕ) → h < 8 → is_in h ledger.issued ≡ false
  -- "the count t of handles issued"
  pub count : desk.t ≡ length ledger.issued
  -- only an issued handle was closed
  pub shut : (h : ℕ) → is_in h ledger.closed ≡ true → is_in h ledger.issued ≡ true
  -- "Served is read by handle; it equals the serves of that job answered 0"
  pub read : (h : ℕ) → is_open desk h ≡ true → read_of h desk ≡ record { number = 0; served = serves_of ledger h }
  -- "since its opening": before it there are none
  pub before : (h : ℕ) → is_in h ledger.issued ≡ false → serves_of ledger h ≡ 0
  -- "at most 4,294,967,295"
  pub most : (h : ℕ) → is_open desk h ≡ true → serves_of ledger h ≤ 4294967295
  -- a job has the shape of its opening, and its marks are those of its opening, changed by the loses and finds answered 0 since
  pub pattern : (h : ℕ) → is_open desk h ≡ true → pattern_for h (job_at desk (slot_of h)) ≡ pattern_of ledger h
  -- "Serves use the marks at the time of the call"
  pub recovery : (h : ℕ) → is_open desk h ≡ true → (word : List ℕ)
      → job_recovery (job_at desk (slot_of h)) word
      ≡ recover_in byte_edition (pattern_of ledger h).m (pattern_of ledger h).w (pattern_of ledger h).c word (pattern_of ledger h).marks
  -- "Stored figures always equal those worked from the marks, after open, lose and find": each group's lost count, 0 past the last group,
  pub counts : (h : ℕ) → is_open desk h ≡ true
      → (job_at desk (slot_of h)).lost ≡ lost_counts (pattern_of ledger h).m (pattern_of ledger h).w (pattern_of ledger h).marks
  -- and the excess
  pub excess-is : (h : ℕ) → is_open desk h ≡ true
      → (job_at desk (slot_of h)).excess ≡ excess (pattern_of ledger h).m (pattern_of ledger h).w (pattern_of ledger h).c (pattern_of ledger h).marks
