-- Soundness, open handles, what Open, Close, Serve, Lose and Find leave, that a refusal leaves everything as it was, and the numbers that calls
-- give, in the papers' words. The proofs stand in MeaningLaws, NumberLaws and ChangeLaws.
use Rattle.std.specs.Prelude.{◌≡◌, ◌↔◌, ◌⊎◌, true, List, ℕ, ◌+◌, ◌*◌, ◌<◌, ◌≤◌, length, get_or, set}
use Rattle.shape.specs.Shapes.{byte_limits}
use Rattle.code.specs.Limits.{place_count, GoodIn}
use Rattle.byte_edition.specs.Edition.{byte_edition}
use Rattle.code.specs.Marks.{lost_in, excess}
use Rattle.code.specs.Contradiction.{contradicting_group}
use Rattle.code.specs.Recovery.{Agrees}
use Rattle.code_services.specs.Judge.{judged_number_in}
use Rattle.code_services.specs.RecoverDemand.{Named}
use Rattle.desk_job.specs.declared.Job.{Job}
use Rattle.desk_record.specs.declared.Desk.{Desk}
use Rattle.desk_record.specs.Calls.{Changing}
use Rattle.desk_job.specs.Jobs.{empty_job, is_free, is_taken, job_marks}
use Rattle.desk_record.specs.Desks.{job_at}
use Rattle.desk_open.specs.Open.{Opening, new_job, open_of}
use Rattle.desk_close.specs.Close.{close_of}
use Rattle.desk_serve.specs.Serve.{Serving, served_once, serve_of}
use Rattle.desk_change.specs.Change.{changed, lose_of, find_of}

-- ---- soundness

-- slot s is taken: its byte is 1
abbrev pub TakenAt : Desk → ℕ → Type 0
TakenAt desk s = is_taken (job_at desk s) ≡ true

-- slot s "holds a good shape, its n marks of 0 or 1 with excess at most 2, and a handle 8u+s with u from 1 to t"; its "stored figures always equal those
-- worked from the marks [..], counts past group m−1 being 0"
pub record HoldsJob (t s : ℕ) (job : Job) : Type 0 where
  pub shape : GoodIn byte_limits job.m job.w job.c
  pub size : length (job_marks job) ≡ place_count job.m job.w
  pub each : (p : ℕ) → p < place_count job.m job.w → get_or job.marks p 0 ≤ 1
  pub losses : excess job.m job.w job.c (job_marks job) ≤ 2
  pub fifteen : length job.lost ≡ 15
  pub counts : (g : ℕ) → g < job.m → get_or job.lost g 0 ≡ lost_in job.w (job_marks job) g
  pub past : (g : ℕ) → job.m ≤ g → g < 15 → get_or job.lost g 0 ≡ 0
  pub excess-is : job.excess ≡ excess job.m job.w job.c (job_marks job)
  pub issue : ℕ
  pub handle-is : job.handle ≡ 8 * issue + s
  pub first : 1 ≤ issue
  pub last : issue ≤ t

-- "A desk is sound if t is at most 65,535 and each taken slot s holds [..], no u twice. What a free slot's fields hold doesn't matter here."
pub record SoundDesk (desk : Desk) : Type 0 where
  pub few : desk.t ≤ 65535
  -- each slot is free or taken: its byte is 0 or 1
  pub byte : (s : ℕ) → s < 8 → (job_at desk s).taken ≤ 1
  pub holds : (s : ℕ) → s < 8 → TakenAt desk s → HoldsJob desk.t s (job_at desk s)
  pub once : (r s u : ℕ) → r < 8 → s < 8 → TakenAt desk r → TakenAt desk s → (job_at desk r).handle ≡ 8 * u + r → (job_at desk s).handle ≡ 8 * u + s → r ≡ s

-- slot s is taken and holds the handle
pub record HeldIn (desk : Desk) (handle s : ℕ) : Type 0 where
  pub below : s < 8
  pub taken : TakenAt desk s
  pub held : (job_at desk s).handle ≡ handle

-- "A handle is open exactly if a taken slot holds it"
abbrev pub IsHeld : Desk → ℕ → Type 0
IsHeld desk handle = (s : ℕ) × HeldIn desk handle s

-- ---- Open

-- s is "the lowest free slot s (0 to 7)"
pub record LowestFree (desk : Desk) (s : ℕ) : Type 0 where
  pub below : s < 8
  pub free : is_free (job_at desk s) ≡ true
  pub lower : (r : ℕ) → r < s → TakenAt desk r

-- An accepted Open "keeps copies [..], raises t by one, uses the lowest free slot s (0 to 7) and gives the handle 8t+s"; no other slot is touched.
pub record Opens (m w c : ℕ) (marks : List ℕ) (desk : Desk) (o : Opening) : Type 0 where
  pub slot : ℕ
  pub lowest : LowestFree desk slot
  pub count : o.desk.t ≡ desk.t + 1
  pub handle-is : o.handle ≡ 8 * o.desk.t + slot
  pub job : job_at o.desk slot ≡ new_job m w c marks o.handle
  pub others : (r : ℕ) → ¬ (r ≡ slot) → job_at o.desk r ≡ job_at desk r

-- 11: "all eight slots are taken"
abbrev pub AllTaken : Desk → Type 0
AllTaken desk = (s : ℕ) → s < 8 → TakenAt desk s

-- Open is "refused only by 1 to 6, 8 as judge gives it, 10, 11 and 31"; 31 comes first, and then "The lowest number that applies is given".
pub record OpenNumbers (m w c : ℕ) (marks : List ℕ) (desk : Desk) (number : ℕ) : Type 0 where
  pub one_of : (number ≤ 6) ⊎ (number ≡ 8) ⊎ (number ≡ 10) ⊎ (number ≡ 11) ⊎ (number ≡ 31)
  pub unsound : (number ≡ 31) ↔ ¬ SoundDesk desk
  pub judged : (r : ℕ) → 1 ≤ r → r ≤ 8 → (number ≡ r) ↔ (SoundDesk desk × (judged_number_in byte_limits m w c marks ≡ r))
  pub ended : (number ≡ 10) ↔ (SoundDesk desk × (judged_number_in byte_limits m w c marks ≡ 0) × (desk.t ≡ 65535))
  pub full : (number ≡ 11) ↔ (SoundDesk desk × (judged_number_in byte_limits m w c marks ≡ 0) × (desk.t < 65535) × AllTaken desk)
  pub done : (number ≡ 0) ↔ (SoundDesk desk × (judged_number_in byte_limits m w c marks ≡ 0) × (desk.t < 65535) × ¬ AllTaken desk)

-- ---- Read and Close

-- "Read and close are refused only by 31 and 12", in this order
pub record HandleNumbers (handle : ℕ) (desk : Desk) (number : ℕ) : Type 0 where
  pub one_of : (number ≡ 0) ⊎ (number ≡ 31) ⊎ (number ≡ 12)
  pub unsound : (number ≡ 31) ↔ ¬ SoundDesk desk
  pub shut : (number ≡ 12) ↔ (SoundDesk desk × ¬ IsHeld desk handle)
  pub done : (number ≡ 0) ↔ (SoundDesk desk × IsHeld desk handle)

-- An accepted Close "frees the slot and sets all its fields to zero"; no other slot is touched, and t stays.
pub record Closes (handle : ℕ) (desk : Desk) (o : Changing) : Type 0 where
  pub slot : ℕ
  pub held : HeldIn desk handle slot
  pub count : o.desk.t ≡ desk.t
  pub job : job_at o.desk slot ≡ empty_job
  pub others : (r : ℕ) → ¬ (r ≡ slot) → job_at o.desk r ≡ job_at desk r

-- ---- Serve

-- a codeword of the job's shape that agrees with the word at the places that the job's marks leave
abbrev pub AgreesBy : Job → List ℕ → List ℕ → Type 0
AgreesBy job word y = Agrees byte_edition job.m job.w job.c (job_marks job) word y

-- by the job's marks, "the lowest group whose present bytes no filling can satisfy locally, or m"
abbrev pub group_by : Job → List ℕ → ℕ
group_by job word = contradicting_group byte_edition job.m job.w job.c word (job_marks job)

-- of a job "5, 13, 9", in this order: the length is not n; the served count is at its end; no codeword agrees with the present bytes
pub record JobNumbers (job : Job) (word : List ℕ) (number group : ℕ) : Type 0 where
  pub long : (number ≡ 5) ↔ ¬ (length word ≡ place_count job.m job.w)
  pub ended : (number ≡ 13) ↔ ((length word ≡ place_count job.m job.w) × (job.served ≡ 4294967295))
  pub contradictory : (number ≡ 9) ↔ ((length word ≡ place_count job.m job.w) × ¬ (job.served ≡ 4294967295) × ((y : List ℕ) → ¬ AgreesBy job word y))
  -- "A 9 now carries a group number"
  pub group-is : number ≡ 9 → group ≡ group_by job word
  pub named : number ≡ 9 → Named byte_edition job.m job.w job.c word (job_marks job) group
  pub done : (number ≡ 0) ↔ ((length word ≡ place_count job.m job.w) × ¬ (job.served ≡ 4294967295) × ((y : List ℕ) × AgreesBy job word y))

-- "31 comes before all others, and with a handle 12 comes next, then 5, 13, 9; a serve can't meet 8"
pub record ServeNumbers (handle : ℕ) (word : List ℕ) (desk : Desk) (number group : ℕ) : Type 0 where
  pub one_of : (number ≡ 0) ⊎ (number ≡ 31) ⊎ (number ≡ 12) ⊎ (number ≡ 5) ⊎ (number ≡ 13) ⊎ (number ≡ 9)
  pub unsound : (number ≡ 31) ↔ ¬ SoundDesk desk
  pub shut : (number ≡ 12) ↔ (SoundDesk desk × ¬ IsHeld desk handle)
  -- no other number carries a group
  pub no-group : ¬ (number ≡ 9) → group ≡ 0
  -- of a word of bytes, by the job in the slot that holds the handle
  pub of-job : (s : ℕ) → SoundDesk desk → HeldIn desk handle s → ((p : ℕ) → get_or word p 0 < 256) → JobNumbers (job_at desk s) word number group

-- An accepted Serve leaves in the word the only codeword that agrees with its present bytes, "by the job's marks", and "adds one to the job's
-- served count"; the job's other fields stay, no other slot is touched, and t stays.
pub record Serves (handle : ℕ) (word : List ℕ) (desk : Desk) (o : Serving) : Type 0 where
  pub slot : ℕ
  pub held : HeldIn desk handle slot
  pub agrees : AgreesBy (job_at desk slot) word o.word
  pub only : (y : List ℕ) → AgreesBy (job_at desk slot) word y → y ≡ o.word
  pub count : o.desk.t ≡ desk.t
  pub job : job_at o.desk slot ≡ served_once (job_at desk slot)
  pub others : (r : ℕ) → ¬ (r ≡ slot) → job_at o.desk r ≡ job_at desk r

-- ---- Lose by mark 1, Find by mark 0

-- of a job: "25 place is n or more"; 8 for a change "that would bring excess above 2", the excess of its marks with that one set; else it is done
pub record PlaceNumbers (mark place : ℕ) (job : Job) (number : ℕ) : Type 0 where
  pub past : (number ≡ 25) ↔ (place_count job.m job.w ≤ place)
  pub eight : (number ≡ 8) ↔ ((place < place_count job.m job.w) × (2 < excess job.m job.w job.c (set (job_marks job) place mark)))
  pub done : (number ≡ 0) ↔ ((place < place_count job.m job.w) × (excess job.m job.w job.c (set (job_marks job) place mark) ≤ 2))

-- "25 place is n or more, after 12 and before 8", and 31 before all others
pub record ChangeNumbers (mark handle place : ℕ) (desk : Desk) (number : ℕ) : Type 0 where
  pub one_of : (number ≡ 0) ⊎ (number ≡ 31) ⊎ (number ≡ 12) ⊎ (number ≡ 25) ⊎ (number ≡ 8)
  pub unsound : (number ≡ 31) ↔ ¬ SoundDesk desk
  pub shut : (number ≡ 12) ↔ (SoundDesk desk × ¬ IsHeld desk handle)
  -- by the job in the slot that holds the handle
  pub of-job : (s : ℕ) → SoundDesk desk → HeldIn desk handle s → PlaceNumbers mark place (job_at desk s) number

-- every other field of a job, and every other mark, those past n too, is as it was
pub record OneMark (mark place : ℕ) (before after : Job) : Type 0 where
  pub taken : after.taken ≡ before.taken
  pub groups : after.m ≡ before.m
  pub width : after.w ≡ before.w
  pub checks : after.c ≡ before.c
  pub served : after.served ≡ before.served
  pub handle : after.handle ≡ before.handle
  pub size : length after.marks ≡ length before.marks
  pub mark-is : get_or after.marks place 0 ≡ mark
  pub marks : (p : ℕ) → ¬ (p ≡ place) → get_or after.marks p 0 ≡ get_or before.marks p 0

-- "A lose or find that is done sets that place's mark and these figures, and changes nothing else on the desk."
pub record Changes (mark handle place : ℕ) (desk : Desk) (o : Changing) : Type 0 where
  pub slot : ℕ
  pub held : HeldIn desk handle slot
  -- t and every other slot
  pub count : o.desk.t ≡ desk.t
  pub others : (r : ℕ) → ¬ (r ≡ slot) → job_at o.desk r ≡ job_at desk r
  pub job : job_at o.desk slot ≡ changed mark place (job_at desk slot)
  pub one-mark : OneMark mark place (job_at desk slot) (job_at o.desk slot)
  -- and the figures are those worked from the marks then
  pub sound : SoundDesk o.desk

-- "one already in the wanted state is done and changes nothing": also at excess 2
pub record Already (mark handle place : ℕ) (desk : Desk) : Type 0 where
  pub slot : ℕ
  pub sound : SoundDesk desk
  pub held : HeldIn desk handle slot
  pub below : place < place_count (job_at desk slot).m (job_at desk slot).w
  pub wanted : get_or (job_at desk slot).marks place 0 ≡ mark

-- ---- refusals

-- "On every refusal all lent buffers and the desk stay as they were." Read leaves no desk.
pub record KeptIfRefused (desk : Desk) : Type 0 where
  pub by-open : (m w c : ℕ) (marks : List ℕ) → ¬ ((open_of m w c marks desk).number ≡ 0) → (open_of m w c marks desk).desk ≡ desk
  pub by-serve : (handle : ℕ) (word : List ℕ) → ¬ ((serve_of handle word desk).number ≡ 0) → (serve_of handle word desk).desk ≡ desk
  pub word-by-serve : (handle : ℕ) (word : List ℕ) → ¬ ((serve_of handle word desk).number ≡ 0) → (serve_of handle word desk).word ≡ word
  pub by-close : (handle : ℕ) → ¬ ((close_of handle desk).number ≡ 0) → (close_of handle desk).desk ≡ desk
  pub by-lose : (handle place : ℕ) → ¬ ((lose_of handle place desk).number ≡ 0) → (lose_of handle place desk).desk ≡ desk
  pub by-find : (handle place : ℕ) → ¬ ((find_of handle place desk).number ≡ 0) → (find_of handle place desk).desk ≡ desk
