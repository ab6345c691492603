-- The refusals of a service that is lent marks.
use Rattle.std.specs.Prelude.{◌≡◌, Bool, not, List, ℕ, ◌*◌, ◌<◌, ltb, length, get_or}
use Rattle.counting.specs.Test.{all_below}
use Rattle.code.specs.Refusals.{refuse, ◌or_else◌}
use Rattle.code.specs.Limits.{Limits, GoodIn, word_refusal_in}

-- "n bytes, 1 for lost and 0 for present"
unfoldable pub are_marks : List ℕ → Bool
are_marks marks = all_below (length marks) (λ p. ltb (get_or marks p 0) 2)

-- 6: "a mark is neither 0 nor 1", after 1 to 5 and 26
unfoldable pub marks_refusal_in : Limits → ℕ → ℕ → ℕ → List ℕ → ℕ
marks_refusal_in L m w c marks = word_refusal_in L m w c (length marks) or_else refuse 6 (not (are_marks marks))

-- a good shape with marks of its length, each 0 or 1
pub record MarkedIn (L : Limits) (m w c : ℕ) (marks : List ℕ) : Type 0 where
  pub good : GoodIn L m w c
  pub size : length marks ≡ m * w
  pub each : (p : ℕ) → get_or marks p 0 < 2
