-- What a call that changes a desk leaves and answers, where the answer has no figures: Close, Lose and Find.
use Rattle.std.specs.Prelude.{◌≡◌, ℕ, zero, suc, Result}
use Rattle.answers.specs.declared.Refusal.{Refusal}
use Rattle.answers.specs.Answers.{answer_number}
use Rattle.desk_record.specs.declared.Desk.{Desk}

-- A number given back, 0 for done, and the desk then.
pub record Changing : Type 0 where
  pub number : ℕ
  pub desk : Desk

-- by its number: the desk anew, or as it was
abbrev pub changing_by : ℕ → Desk → Desk → Changing
changing_by zero new old = record { number = 0; desk = new }
changing_by (suc r) new old = record { number = suc r; desk = old }

-- what such a call leaves and answers; by its type no refusal has the number of done
pub record ChangeGives (o : Changing) (desk : Desk) (answer : Result Unit Refusal) : Type 0 where
  pub desk-is : desk ≡ o.desk
  pub number_is : answer_number answer ≡ o.number
