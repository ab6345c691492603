-- Rows of pairs, for groups of at most sixteen places: at 2j and 2j + 1 stand two numbers of place j, so that both sums across are worked in one pass.
use Rattle.std.specs.Prelude.{◌≡◌, List, ℕ, suc, ◌+◌, ◌*◌, ◌<◌, length, get_or}
use Rattle.binary_field.specs.Product.{product}
use Rattle.binary_field.specs.Sum.{sum_below}
use Rattle.code.specs.Edition.{raised}
use Rattle.code.specs.Word.{coefficient}
use Rattle.wide_shape.specs.Edition.{wide_edition}
use Rattle.wide_across.specs.declared.Sums.{Sums}

-- from a on a row holds the coefficients b and b^256 of the first sixteen places, with c local checks
pub record Coefficients (c a : ℕ) (row : List ℕ) : Type 0 where
  pub first : (j : ℕ) → j < 16 → get_or row (a + 2 * j) 0 ≡ coefficient wide_edition c j
  pub second : (j : ℕ) → j < 16 → get_or row (a + 2 * j + 1) 0 ≡ raised wide_edition (coefficient wide_edition c j) 256

-- a row holds them for one, two, three and four local checks
pub record AllCoefficients (row : List ℕ) : Type 0 where
  pub size : length row ≡ 128
  pub at : (i : ℕ) → i < 4 → Coefficients (suc i) (i * 32) row

-- z has the symbols of x and y in turn
pub record Paired (x y z : List ℕ) : Type 0 where
  pub size : length z ≡ 32
  pub first : (j : ℕ) → j < length x → get_or z (2 * j) 0 ≡ get_or x j 0
  pub second : (j : ℕ) → j < length x → get_or z (2 * j + 1) 0 ≡ get_or y j 0

-- the sums of w symbols of x and of y with the first and the second numbers of a row
abbrev pub paired_sums : ℕ → List ℕ → List ℕ → List ℕ → Sums
paired_sums w x y row = record {
  first = sum_below w (λ j. product 16 69643 (get_or x j 0) (get_or row (2 * j) 0));
  second = sum_below w (λ j. product 16 69643 (get_or y j 0) (get_or row (2 * j + 1) 0));
}

-- the sums of the first and of the second numbers of w pairs
abbrev pub sums_of_pairs : ℕ → List ℕ → Sums
sums_of_pairs w z = record { first = sum_below w (λ j. get_or z (2 * j) 0); second = sum_below w (λ j. get_or z (2 * j + 1) 0) }
