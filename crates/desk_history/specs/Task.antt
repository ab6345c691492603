-- From its opening to its closing a handle's job keeps the shape that Open was given, and its marks are those of its opening changed by the loses
-- and finds answered 0 since: a serve "recovers by the job's marks, which stay", and "Serves use the marks at the time of the call".
use Rattle.std.specs.Prelude.{◌≡◌, Bool, true, false, not, ◌&&◌, cond, List, [], ◌∷◌, ℕ, eqb, length, set}
use Rattle.code.specs.Refusals.{refuse, ◌or_else◌}
use Rattle.code.specs.Limits.{place_count}
use Rattle.byte_edition.specs.Edition.{byte_edition}
use Rattle.code_services.specs.Recover.{recover_in}
use Rattle.desk_job.specs.declared.Job.{Job}
use Rattle.desk_record.specs.declared.Desk.{Desk}
use Rattle.desk_record.specs.Desks.{job_at, slot_of, is_open}
use Rattle.desk_open.specs.Open.{new_job}
use Rattle.desk_serve.specs.Serve.{job_recovery, group_of_nine, serve_of}
use Rattle.desk_history.specs.History.{DeskCall, Fresh, Open, Serve, Read, Close, Lose, Find, Answered}

-- a call that neither starts a new desk nor closes this handle; it may serve it, lose a place of it or find one
unfoldable pub is_keeping : ℕ → DeskCall → Bool
is_keeping h Fresh = false
is_keeping h (Open m w c marks) = true
is_keeping h (Serve g word) = true
is_keeping h (Read g) = true
is_keeping h (Close g) = not (eqb h g)
is_keeping h (Lose g place) = true
is_keeping h (Find g place) = true

-- no call of a list starts a new desk or closes this handle
unfoldable pub are_keeping : ℕ → List DeskCall → Bool
are_keeping h [] = true
are_keeping h (call ∷ calls) = is_keeping h call && are_keeping h calls

-- the marks of a handle after one more call and its number: a lose or find of it answered 0 sets one
unfoldable pub marked_by : ℕ → DeskCall → ℕ → List ℕ → List ℕ
marked_by h Fresh number marks = marks
marked_by h (Open m w c other) number marks = marks
marked_by h (Serve g word) number marks = marks
marked_by h (Read g) number marks = marks
marked_by h (Close g) number marks = marks
marked_by h (Lose g place) number marks = cond (eqb h g && eqb number 0) (set marks place 1) marks
marked_by h (Find g place) number marks = cond (eqb h g && eqb number 0) (set marks place 0) marks

-- the marks of a handle after some answered calls, the first first
unfoldable pub marks_after : ℕ → List ℕ → List Answered → List ℕ
marks_after h marks [] = marks
marks_after h marks (a ∷ rest) = marks_after h (marked_by h a.call a.number marks) rest

-- all of a job but its served count
abbrev pub task_of : Job → Job
task_of job = record {
  taken = job.taken;
  m = job.m;
  w = job.w;
  c = job.c;
  served = 0;
  handle = job.handle;
  marks = job.marks;
  lost = job.lost;
  excess = job.excess;
}

-- A handle is open with a shape and marks, and figures worked from them, and a word is recovered by them.
pub record Works (m w c : ℕ) (marks : List ℕ) (h : ℕ) (desk : Desk) : Type 0 where
  pub held : is_open desk h ≡ true
  pub task : task_of (job_at desk (slot_of h)) ≡ new_job m w c marks h
  pub recovery : (word : List ℕ) → job_recovery (job_at desk (slot_of h)) word ≡ recover_in byte_edition m w c word marks

-- A serve of the handle: 5 and 13 as before, and then what a recovery of the word by these marks gives: its number, the group of a 9, and where it is
-- done the word.
pub record ServesBy (m w c : ℕ) (marks : List ℕ) (h : ℕ) (word : List ℕ) (desk : Desk) : Type 0 where
  pub number : (serve_of h word desk).number
      ≡ (refuse 5 (not (eqb (length word) (place_count m w)))
      or_else refuse 13 (eqb (job_at desk (slot_of h)).served 4294967295)
      or_else (recover_in byte_edition m w c word marks).number)
  -- "A 9 now carries a group number": that of the recovery; no other number carries one
  pub group : (serve_of h word desk).group ≡ group_of_nine (serve_of h word desk).number (recover_in byte_edition m w c word marks).group
  pub done : (serve_of h word desk).number ≡ 0 → (serve_of h word desk).word ≡ (recover_in byte_edition m w c word marks).word
  -- "On every refusal all lent buffers [..] stay as they were."
  pub refused : ¬ ((serve_of h word desk).number ≡ 0) → (serve_of h word desk).word ≡ word

-- a call that is no lose or find of this handle
unfoldable pub is_unmarking : ℕ → DeskCall → Bool
is_unmarking h Fresh = true
is_unmarking h (Open m w c marks) = true
is_unmarking h (Serve g word) = true
is_unmarking h (Read g) = true
is_unmarking h (Close g) = true
is_unmarking h (Lose g place) = not (eqb h g)
is_unmarking h (Find g place) = not (eqb h g)

-- no call of a list is a lose or find of this handle
unfoldable pub are_unmarking : ℕ → List DeskCall → Bool
are_unmarking h [] = true
are_unmarking h (call ∷ calls) = is_unmarking h call && are_unmarking h calls
