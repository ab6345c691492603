-- What Read answers.
use Rattle.std.specs.Prelude.{◌≡◌, ℕ, zero, suc, Result, Ok, Err}
use Rattle.answers.specs.declared.Refusal.{Refusal}
use Rattle.answers.specs.Answers.{refused_number}
use Rattle.desk_record.specs.declared.Desk.{Desk}
use Rattle.desk_record.specs.Desks.{job_at, slot_of}
use Rattle.desk_record.specs.Refusal.{handle_refusal}

-- A number given back, 0 for done, and the served count, 0 if there is none.
pub record Reading : Type 0 where
  pub number : ℕ
  pub served : ℕ

-- by its number: the served count, or none
abbrev pub read_by : ℕ → ℕ → Desk → Reading
read_by zero handle desk = record { number = 0; served = (job_at desk (slot_of handle)).served }
read_by (suc r) handle desk = record { number = suc r; served = 0 }

-- "Served is read by handle"
unfoldable pub read_of : ℕ → Desk → Reading
read_of handle desk = read_by (handle_refusal handle desk) handle desk

-- the number of an answer, 0 for done
abbrev pub counted_number : Result ℕ Refusal → ℕ
counted_number = refused_number

-- the served count of an answer, 0 if there is none
abbrev pub counted_served : Result ℕ Refusal → ℕ
counted_served (Ok served) = served
counted_served (Err e) = 0

-- what Read answers; by its type no refusal has the number of done
pub record ReadGives (o : Reading) (answer : Result ℕ Refusal) : Type 0 where
  pub number_is : counted_number answer ≡ o.number
  pub served-is : counted_served answer ≡ o.served
