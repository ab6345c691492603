-- C is given an answer's number and group.
use Rattle.std.specs.Prelude.{◌≡◌, ℕ, Result}
use Rattle.std.proofs.Common.{ap₂}
use Rattle.answers.specs.declared.Refusal.{Refusal}
use Rattle.answers.specs.Answers.{mending_number, mending_group}
use Rattle.c_answers.specs.declared.Mended.{Mended}
use Rattle.c_answers.specs.Mends.{mending_mended}

abbrev number_and_group : ℕ → ℕ → Mended
number_and_group number group = record { number = number; group = group }

-- by the number and the group that are read off an answer
pub mended-by : (answer : Result Unit Refusal) (number group : ℕ) → mending_number answer ≡ number → mending_group answer ≡ group
    → mending_mended answer ≡ record { number = number; group = group }
mended-by answer number group e f = ap₂ number_and_group e f
