-- Request 2, what the sure count is to be.
use Rattle.std.specs.Prelude.{◌≡◌, List, ℕ, ◌*◌, ◌≤◌}
use Rattle.counting.specs.Count.{count_below}
use Rattle.code.specs.Marks.{lost}
use Rattle.code.specs.Limits.{Limits}
use Rattle.code_services.specs.Marks.{marks_refusal_in}
use Rattle.code_services.specs.Judge.{judged_number_in}

-- "every pattern of that many losses or fewer is judged 0"
abbrev pub IsSureIn : Limits → ℕ → ℕ → ℕ → ℕ → Type 0
IsSureIn L m w c s = (marks : List ℕ) → marks_refusal_in L m w c marks ≡ 0 → count_below (m * w) (lost marks) ≤ s → judged_number_in L m w c marks ≡ 0

-- a pattern of so many losses that is judged 8
pub record FailsIn (L : Limits) (m w c losses : ℕ) : Type 0 where
  pub marks : List ℕ
  pub accepted : marks_refusal_in L m w c marks ≡ 0
  pub count : count_below (m * w) (lost marks) ≡ losses
  pub eight : judged_number_in L m w c marks ≡ 8
