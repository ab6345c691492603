-- What each row operation makes of a row, the functions of rows that are linear, and the two cases of a column.
use Rattle.std.specs.Prelude.{◌≡◌, List, ℕ, ◌^◌, ◌<◌, get_or}
use Rattle.binary_field.specs.Xor.{◌⊕◌}
use Rattle.binary_field.specs.Product.{product}
use Rattle.code_engine.specs.Elimination.{scaled, added}

-- a row of numbers of k digits
abbrev pub Small : ℕ → List ℕ → Type 0
Small k xs = (c : ℕ) → get_or xs c 0 < 2 ^ k

-- a function of rows that sums and multiples go through
pub record Linear (k m : ℕ) (L : List ℕ → ℕ) : Type 0 where
  pub scale : (f : ℕ) (xs : List ℕ) → L (scaled k m f xs) ≡ product k m f (L xs)
  pub add : (f : ℕ) (xs ys : List ℕ) → L (added k m f xs ys) ≡ L xs ⊕ product k m f (L ys)
  pub keeps : (xs : List ℕ) → Small k xs → L xs < 2 ^ k
