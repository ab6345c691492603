-- The free places of a word.
use Rattle.std.specs.Prelude.{◌≡◌, true, false, List, ℕ, zero, suc, ◌≤◌, ◌<◌, length}
use Rattle.counting.specs.Count.{count_below}
use Rattle.code.specs.Marks.{lost}
use Rattle.code_engine.specs.Bound.{free}

-- the first or the second
abbrev pub free_at : ℕ → ℕ → ℕ → ℕ
free_at first second zero = first
free_at first second (suc i) = second

-- count free places, and all of them where there are at most two
pub record FreePlaces (marks bound : List ℕ) (count first second : ℕ) : Type 0 where
  pub most : count ≤ 2
  pub less : (i : ℕ) → i < count → free_at first second i < length marks
  pub is_lost : (i : ℕ) → i < count → lost marks (free_at first second i) ≡ true
  pub not-bound : (i : ℕ) → i < count → lost bound (free_at first second i) ≡ false
  pub apart : (i l : ℕ) → i < count → l < count → free_at first second i ≡ free_at first second l → i ≡ l
  pub every : count_below (length marks) (free marks bound) ≤ 2 → (p : ℕ) → p < length marks → lost marks p ≡ true → lost bound p ≡ false
      → (i : ℕ) × (i < count) × (p ≡ free_at first second i)

-- r is the first free place from start on; at or past the end there is none
pub record NextFree (marks bound : List ℕ) (start r : ℕ) : Type 0 where
  pub on : start ≤ r
  pub passed : (p : ℕ) → p < r → start ≤ p → free marks bound p ≡ false
  pub found : r < length marks → free marks bound r ≡ true
