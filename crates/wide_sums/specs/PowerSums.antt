-- The power sums of a group's stretch: the sum over its places of symbol times locator to the power e. The first c are its local equations,
-- the next two give its share of both sums across.
use Rattle.std.specs.Prelude.{◌≡◌, List, ℕ, ◌<◌, length, get_or}
use Rattle.code.specs.Edition.{times, raised}
use Rattle.code.specs.Word.{local_sum}
use Rattle.wide_shape.specs.Edition.{wide_edition}

-- the first n power sums of a stretch
abbrev pub PowerSums : List ℕ → ℕ → List ℕ → Type 0
PowerSums part n sums = (e : ℕ) → e < n → get_or sums e 0 ≡ local_sum wide_edition (length part) part 0 e

-- each symbol times that at the same place of a row
pub record EachTimes (before row after : List ℕ) : Type 0 where
  pub size : length after ≡ length before
  pub each : (i : ℕ) → i < length before → get_or after i 0 ≡ times wide_edition (get_or before i 0) (get_or row i 0)

-- the locator of each place
abbrev pub IsRow : ℕ → List ℕ → Type 0
IsRow n row = (j : ℕ) → j < n → get_or row j 0 ≡ wide_edition.locator j

-- a stretch with each symbol times its locator to the power e
pub record Raised (e : ℕ) (part x : List ℕ) : Type 0 where
  pub size : length x ≡ length part
  pub each : (j : ℕ) → j < length part → get_or x j 0 ≡ times wide_edition (get_or part j 0) (raised wide_edition (wide_edition.locator j) e)
