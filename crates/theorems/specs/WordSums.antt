-- The words done by hand: each is shown a codeword by its sums, and the theorems on encoding and recovery say the rest.
use Rattle.std.specs.Prelude.{List, [], ◌∷◌, ◌++◌, ℕ}
use Rattle.code.specs.Outcome.{Outcome}

-- one number
abbrev pub number : ℕ → List ℕ
number n = n ∷ []

-- number, group, word and marks of an outcome
abbrev pub outcome_list : Outcome → List ℕ
outcome_list o = o.number ∷ o.group ∷ (o.word ++ o.marks)
