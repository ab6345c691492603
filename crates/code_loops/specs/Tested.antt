-- The steps of the test of all equations: the refusal, the lowest broken group, then the two sums across.
use Rattle.std.specs.Prelude.{◌≡◌, List, ℕ, ◌*◌, length}
use Rattle.answers.specs.declared.Tested.{Tested}
use Rattle.code.specs.Edition.{Edition}
use Rattle.code.specs.Limits.{GoodIn}
use Rattle.code_engine.specs.Tests.{tested_in, not_tested}

-- what the test promises of its result
abbrev pub TestGiven : Edition → ℕ → ℕ → ℕ → List ℕ → Tested → Type 0
TestGiven E m w c word r =
    (GoodIn E.limits m w c → length word ≡ m * w → r ≡ tested_in E m w c word)
    × ((GoodIn E.limits m w c → length word ≡ m * w → ⊥) → r ≡ not_tested)
