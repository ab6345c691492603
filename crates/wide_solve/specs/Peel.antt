-- The symbols of t places from the power sums that they make with the places' locators.
use Rattle.std.specs.Prelude.{◌≡◌, ℕ, ◌<◌}
use Rattle.binary_field.specs.Xor.{◌⊕◌}
use Rattle.binary_field.specs.Product.{product}
use Rattle.binary_field.specs.Power.{power}
use Rattle.binary_field.specs.Sum.{sum_below}
use Rattle.wide_solve.specs.Small.{IsSmall}

-- the symbols u at the locators x have the power sums s, for each exponent below t
abbrev pub HasSums : ℕ → ℕ → ℕ → (ℕ → ℕ) → (ℕ → ℕ) → (ℕ → ℕ) → Type 0
HasSums k m t x u s = (e : ℕ) → e < t → sum_below t (λ i. product k m (u i) (power k m (x i) e)) ≡ s e

-- the first t of the locators differ, each two of them by an element of the small field
abbrev pub Apart : ℕ → (ℕ → ℕ) → Type 0
Apart t x = (i j : ℕ) → i < j → j < t → IsSmall (x i ⊕ x j) × (x i ⊕ x j ≡ 0 → ⊥)
