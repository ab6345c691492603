-- What is left for the two sums across, by the number of free places.
use Rattle.std.specs.Prelude.{◌≡◌, List, ℕ, ◌<◌, length}
use Rattle.block_constants.specs.FreeRows.{one_value, two_first, two_second}
use Rattle.block_laws.specs.Steps.{place_symbol}
use Rattle.block_laws.specs.Whole.{row_sum}

-- both sums across are zero
abbrev pub BothZero : ℕ → (ℕ → ℕ) → (ℕ → ℕ) → (ℕ → ℕ) → Type 0
BothZero n a b v = (row_sum n v a ≡ 0) × (row_sum n v b ≡ 0)

module _ (p : ℕ) (a b : ℕ → ℕ) where
  -- the one free block written, all else as it was
  pub record OneWritten (n size : ℕ) (before after : List ℕ) : Type 0 where
    pub long : length after ≡ length before
    pub here : (x : ℕ) → x < size → place_symbol size after x p ≡ row_sum n (place_symbol size before x) (one_value p a b)
    pub other : (r x : ℕ) → x < size → ¬ (r ≡ p) → place_symbol size after x r ≡ place_symbol size before x r

  -- the two free blocks written, all else as it was
  pub record TwoWritten (q n size : ℕ) (before after : List ℕ) : Type 0 where
    pub long : length after ≡ length before
    pub here : (x : ℕ) → x < size → place_symbol size after x p ≡ row_sum n (place_symbol size before x) (two_first p a b q)
    pub there : (x : ℕ) → x < size → place_symbol size after x q ≡ row_sum n (place_symbol size before x) (two_second p a b q)
    pub other : (r x : ℕ) → x < size → ¬ (r ≡ p) → ¬ (r ≡ q) → place_symbol size after x r ≡ place_symbol size before x r
