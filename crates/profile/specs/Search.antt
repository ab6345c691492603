-- The search for a set over counts of lost places by place number.
use Rattle.std.specs.Prelude.{◌≡◌, Bool, cond, List, ℕ, ◌+◌, ◌-◌, ◌*◌, ◌<◌, leb, get_or}
use Rattle.std.proofs.Math.Option.{Option, none, some}
use Rattle.std.specs.Prelude.{Option as Answer, Some, None}
use Rattle.counting.specs.Count.{total_below, count_below}
use Rattle.code.specs.Marks.{lost}
use Rattle.profile.specs.declared.PlaceSet.{PlaceSet}
use Rattle.counting.specs.Sets.{is_in, sets_of, first_in}
use Rattle.profile.specs.Profiled.{place_set_of}

-- how many groups have lost their place j
unfoldable pub lost_at : ℕ → ℕ → List ℕ → ℕ → ℕ
lost_at m w marks j = count_below m (λ g. lost marks (g * w + j))

-- of the numbers from a to a + n - 1, what lies outside the set
unfoldable pub outside_from : List ℕ → ℕ → ℕ → List ℕ → ℕ
outside_from counts a n s = total_below n (λ i. cond (is_in (a + i) s) 0 (get_or counts (a + i) 0))

-- with what lies outside before them it is at most two
abbrev pub within : List ℕ → ℕ → ℕ → ℕ → List ℕ → Bool
within counts a n out s = leb (out + outside_from counts a n s) 2

-- the first set of `size` numbers among the last `left` below w, where `out` lost places lie outside before them
abbrev pub found_in : List ℕ → ℕ → ℕ → ℕ → ℕ → Option (List ℕ)
found_in counts w size left out = first_in (within counts (w - left) left out) (sets_of size (w - left) left)

-- there is none of fewer numbers
abbrev pub NoneSmaller : List ℕ → ℕ → ℕ → ℕ → ℕ → Type 0
NoneSmaller counts w size left out = (k : ℕ) → k < size → found_in counts w k left out ≡ none

-- the set that is found, if there is one
abbrev pub found_at : Option (List ℕ) → Answer PlaceSet
found_at none = None
found_at (some s) = Some (place_set_of s)
