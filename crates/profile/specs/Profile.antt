-- The profile: "up to c whole places j, the same in all groups, plus at most two lost places elsewhere".
use Rattle.std.specs.Prelude.{◌≡◌, Bool, not, ◌&&◌, List, ℕ, suc, ◌*◌, ◌%◌, ◌<◌, ◌≤◌, leb, length}
use Rattle.std.proofs.Math.Option.{Option}
use Rattle.counting.specs.Count.{count_below}
use Rattle.code.specs.Marks.{lost}
use Rattle.counting.specs.Sets.{is_in, IsSet, Before, sets_below, first_in}

-- how many lost places lie outside a set of place numbers; p % w is the number of place p in its group
unfoldable pub outside : ℕ → ℕ → List ℕ → List ℕ → ℕ
outside m w marks s = count_below (m * w) (λ p. lost marks p && not (is_in (p % w) s))

-- "leaves at most two lost places outside it"
abbrev pub covers : ℕ → ℕ → List ℕ → List ℕ → Bool
covers m w marks s = leb (outside m w marks s) 2

-- "some set of at most c place numbers leaves at most two lost places outside it [..]; of several, the one with fewest places and then the
-- smallest numbers first"
unfoldable pub shown_set : ℕ → ℕ → ℕ → List ℕ → Option (List ℕ)
shown_set m w c marks = first_in (covers m w marks) (sets_below (suc c) w)

-- "some set of at most c place numbers leaves at most two lost places outside it"
pub record Fits (m w c : ℕ) (marks : List ℕ) : Type 0 where
  pub s : List ℕ
  pub is_set : IsSet 0 w s
  pub size : length s ≤ c
  pub leaves : outside m w marks s ≤ 2

-- The set that is shown: one of at most c place numbers that leaves at most two lost places outside it; no fewer numbers, in whatever order,
-- leave so few, and no set of as many that comes before it does.
pub record Shown (m w c : ℕ) (marks s : List ℕ) : Type 0 where
  pub is_set : IsSet 0 w s
  pub size : length s ≤ c
  pub leaves : outside m w marks s ≤ 2
  pub fewest : (t : List ℕ) → length t < length s → 2 < outside m w marks t
  pub first : (t : List ℕ) → IsSet 0 w t → length t ≡ length s → Before t s → 2 < outside m w marks t
