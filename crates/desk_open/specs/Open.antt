-- What Open answers, and what the desk holds then.
use Rattle.std.specs.Prelude.{◌≡◌, cond, List, [], ◌∷◌, ◌++◌, ℕ, zero, suc, ◌+◌, ◌-◌, ◌*◌, eqb, length, set, replicate, Result, Ok, Err}
use Rattle.code.specs.Refusals.{refuse, ◌or_else◌}
use Rattle.shape.specs.Shapes.{byte_limits}
use Rattle.code_services.specs.Judge.{judged_number_in}
use Rattle.answers.specs.declared.Refusal.{Refusal}
use Rattle.answers.specs.Answers.{refused_number}
use Rattle.desk_job.specs.declared.Job.{Job}
use Rattle.desk_record.specs.declared.Desk.{Desk}
use Rattle.desk_job.specs.Jobs.{is_taken, with_marks}
use Rattle.desk_record.specs.Refusal.{sound_refusal}

-- the first slot, counted from i, that is not taken; past the last one if all are
unfoldable pub free_from : List Job → ℕ → ℕ
free_from [] i = i
free_from (job ∷ jobs) i = cond (is_taken job) (free_from jobs (i + 1)) i

-- "the lowest free slot s (0 to 7)"; 8 if all are taken
abbrev pub free_slot : Desk → ℕ
free_slot desk = free_from desk.jobs 0

-- "refused only by 1 to 6, 8 as judge gives it, 10, 11 and 31"
unfoldable pub open_number : ℕ → ℕ → ℕ → List ℕ → Desk → ℕ
open_number m w c marks desk =
    sound_refusal desk
    or_else judged_number_in byte_limits m w c marks
    or_else refuse 10 (eqb desk.t 65535)
    or_else refuse 11 (eqb (free_slot desk) 8)

-- "raises t by one [..] and gives the handle 8t+s"
abbrev pub new_handle : Desk → ℕ
new_handle desk = 8 * (desk.t + 1) + free_slot desk

-- "keeps copies (marks past n as 0, served as 0)", with the figures worked from the marks
unfoldable pub new_job : ℕ → ℕ → ℕ → List ℕ → ℕ → Job
new_job m w c marks handle =
    with_marks (record { taken = 1; m = m; w = w; c = c; served = 0; handle = handle; marks = []; lost = []; excess = 0 })
    (marks ++ replicate (240 - length marks) 0)

-- A number given back, 0 for done, the handle, 0 if there is none, and the desk then.
pub record Opening : Type 0 where
  pub number : ℕ
  pub handle : ℕ
  pub desk : Desk

-- by its number: the desk with the new job, or the desk as it was
abbrev pub open_by : ℕ → ℕ → ℕ → ℕ → List ℕ → Desk → Opening
open_by zero m w c marks desk = record {
  number = 0;
  handle = new_handle desk;
  desk = record { t = desk.t + 1; jobs = set desk.jobs (free_slot desk) (new_job m w c marks (new_handle desk)) };
}
open_by (suc r) m w c marks desk = record { number = suc r; handle = 0; desk = desk }

-- the whole call
unfoldable pub open_of : ℕ → ℕ → ℕ → List ℕ → Desk → Opening
open_of m w c marks desk = open_by (open_number m w c marks desk) m w c marks desk

-- the number of an answer, 0 for done
abbrev pub opened_number : Result ℕ Refusal → ℕ
opened_number = refused_number

-- the handle of an answer, 0 if there is none
abbrev pub opened_handle : Result ℕ Refusal → ℕ
opened_handle (Ok handle) = handle
opened_handle (Err e) = 0

-- what Open leaves and answers; by its type no refusal has the number of done
pub record OpenGives (o : Opening) (desk : Desk) (answer : Result ℕ Refusal) : Type 0 where
  pub desk-is : desk ≡ o.desk
  pub number_is : opened_number answer ≡ o.number
  pub handle-is : opened_handle answer ≡ o.handle
