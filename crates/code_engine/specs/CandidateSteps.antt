-- What the steps towards the candidate owe: the base with its lost places blanked, the groups filled, a direction of one free place, and a
-- multiple of it added.
use Rattle.std.specs.Prelude.{◌≡◌, true, false, List, ℕ, ◌≤◌, ◌<◌, length, get_or}
use Rattle.binary_field.specs.Xor.{◌⊕◌}
use Rattle.code.specs.Edition.{Edition, times}
use Rattle.code.specs.Word.{local_sum}
use Rattle.code.specs.Marks.{lost, lost_in}

-- x is word, of symbols of any type, with z in the lost places
pub record BlankedOver {A : Type 0} (z : A) (marks : List ℕ) (word x : List A) : Type 0 where
  pub size : length x ≡ length word
  pub present : (p : ℕ) → p < length word → lost marks p ≡ false → get_or x p z ≡ get_or word p z
  pub zero : (p : ℕ) → p < length word → lost marks p ≡ true → get_or x p z ≡ z

-- x is word with 0 in the lost places
abbrev pub Blanked : List ℕ → List ℕ → List ℕ → Type 0
Blanked marks word x = BlankedOver 0 marks word x

-- in each group the bound places are filled so that as many local sums are zero as places are bound
pub record GroupsFilledIn (E : Edition) (m w : ℕ) (bound before after : List ℕ) : Type 0 where
  pub size : length after ≡ length before
  pub present : (p : ℕ) → lost bound p ≡ false → get_or after p 0 ≡ get_or before p 0
  pub zero : (g : ℕ) → g < m → (e : ℕ) → e < lost_in w bound g → local_sum E w after g e ≡ 0

-- the direction of place j of a group, with the group's bound marks: 1 there, 0 at every other place that is not bound
pub record DirectionIn (E : Edition) (w j : ℕ) (bound h : List ℕ) : Type 0 where
  pub size : length h ≡ w
  pub own : get_or h j 0 ≡ 1
  pub off : (i : ℕ) → i < w → lost bound i ≡ false → ¬ (i ≡ j) → get_or h i 0 ≡ 0
  pub zero : (e : ℕ) → e < lost_in w bound 0 → local_sum E w h 0 e ≡ 0

-- a row is 0 from place w on
abbrev pub ZeroFrom : ℕ → List ℕ → Type 0
ZeroFrom w h = (i : ℕ) → w ≤ i → get_or h i 0 ≡ 0

-- u times h added
pub record AddedIn (E : Edition) (u : ℕ) (h before after : List ℕ) : Type 0 where
  pub size : length after ≡ length before
  pub each : (i : ℕ) → i < length before → get_or after i 0 ≡ get_or before i 0 ⊕ times E u (get_or h i 0)
