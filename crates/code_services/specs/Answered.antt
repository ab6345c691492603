-- What a service that mends answers, by this paper's number and group.
use Rattle.std.specs.Prelude.{◌≡◌, Result}
use Rattle.code.specs.Outcome.{Outcome}
use Rattle.answers.specs.declared.Refusal.{Refusal}
use Rattle.answers.specs.Answers.{mending_number, mending_group}

-- "When an answer is an enum, a definition gives this paper's number and values for each case of that enum": the answer r gives the number and the
-- group of an outcome. By its type a refusal is not done's 0, and of all refusals only a 9 carries a group.
pub record AnswersBy (r : Result Unit Refusal) (x : Outcome) : Type 0 where
  pub number : mending_number r ≡ x.number
  pub group : mending_group r ≡ x.group
