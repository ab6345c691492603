-- What an accepted Open, Serve, Close, Lose or Find does to a sound desk: it stays sound, and which handles are open then.
use Rattle.std.specs.Prelude.{◌≡◌, Bool, true, false, ◌&&◌, List, ℕ, ◌+◌, ◌<◌, eqb, length, get_or}
use Rattle.shape.specs.Shapes.{byte_limits}
use Rattle.code_services.specs.Judge.{judged_number_in}
use Rattle.desk_job.specs.declared.Job.{Job}
use Rattle.desk_record.specs.declared.Desk.{Desk}
use Rattle.desk_job.specs.Jobs.{empty_job, no_job, is_taken}
use Rattle.desk_record.specs.Desks.{job_at, slot_of, is_sound_slot, is_open, SoundRecord}
use Rattle.desk_open.specs.Open.{free_from, free_slot, new_handle, new_job}
use Rattle.desk_serve.specs.Serve.{served_once}
use Rattle.desk_history.specs.Put.{put}

-- the job is taken under this handle
abbrev pub holds_handle : Job → ℕ → Bool
holds_handle job h = is_taken job && eqb job.handle h

-- where the search for a free slot ends: every slot before it is taken
pub record Spot (jobs : List Job) (i : ℕ) : Type 0 where
  pub place : ℕ
  pub found : free_from jobs i ≡ i + place
  pub free : place < length jobs → is_taken (get_or jobs place no_job) ≡ false
  pub lower : (r : ℕ) → r < place → is_taken (get_or jobs r no_job) ≡ true

module _ (m w c : ℕ) (marks : List ℕ) (desk : Desk) (size : length desk.jobs ≡ 8) (S : SoundRecord desk)
    (judged : judged_number_in byte_limits m w c marks ≡ 0) (early : desk.t < 65535) (room : free_slot desk < 8) where
  abbrev pub H : ℕ
  H = new_handle desk

  abbrev pub job : Job
  job = new_job m w c marks H

  abbrev pub opened : Desk
  opened = put desk (desk.t + 1) (free_slot desk) job

module _ (desk : Desk) (size : length desk.jobs ≡ 8) (S : SoundRecord desk) (H : ℕ) (o : is_open desk H ≡ true) where
  abbrev pub closed : Desk
  closed = put desk desk.t (slot_of H) empty_job

  -- another job in the slot of an open handle
  abbrev pub replaced : Job → Desk
  replaced job = put desk desk.t (slot_of H) job

  abbrev pub served : Desk
  served = replaced (served_once (job_at desk (slot_of H)))

  -- a sound job under the same taken byte and handle: what Serve, Lose and Find put there
  pub record SameKey (job : Job) : Type 0 where
    pub taken : job.taken ≡ (job_at desk (slot_of H)).taken
    pub handle : job.handle ≡ (job_at desk (slot_of H)).handle
    pub slot : is_sound_slot desk.t (slot_of H) job ≡ true
