-- Marks: which places of a word are lost, the excess of a group and of the whole pattern, and agreement at the present places.
use Rattle.std.specs.Prelude.{◌≡◌, Bool, true, false, List, ℕ, ◌+◌, ◌-◌, ◌*◌, ◌<◌, eqb, get_or}
use Rattle.counting.specs.Count.{total_below, count_below}

-- "Marks are n bytes, 1 for lost and 0 for present." An erasure is a lost place.
abbrev pub lost : List ℕ → ℕ → Bool
lost marks p = eqb (get_or marks p 0) 1

-- how many places of group g are lost
unfoldable pub lost_in : ℕ → List ℕ → ℕ → ℕ
lost_in w marks g = count_below w (λ j. lost marks (g * w + j))

-- "A group's excess is its lost count less c, or 0 if that is negative;"
abbrev pub group_excess : ℕ → ℕ → List ℕ → ℕ → ℕ
group_excess w c marks g = lost_in w marks g - c

-- "the pattern's excess is the sum over groups."
unfoldable pub excess : ℕ → ℕ → ℕ → List ℕ → ℕ
excess m w c marks = total_below m (group_excess w c marks)

-- two words agree at all present places below n
abbrev pub Agree : ℕ → List ℕ → List ℕ → List ℕ → Type 0
Agree n marks x y = (p : ℕ) → p < n → lost marks p ≡ false → get_or x p 0 ≡ get_or y p 0
