-- The kernel of a matrix, and that a column without a pivot gives an element of it other than 0.
use Rattle.std.specs.Prelude.{◌≡◌, List, ℕ, ◌^◌, ◌<◌}
use Rattle.binary_field.specs.Product.{product}
use Rattle.binary_field.specs.Sum.{sum_below}
use Rattle.code_engine.specs.Elimination.{entry}

-- the coefficients times x are 0 in each of the t rows
abbrev pub Kernel : ℕ → ℕ → List (List ℕ) → ℕ → (ℕ → ℕ) → Type 0
Kernel k m M t x = (e : ℕ) → e < t → sum_below t (λ i. product k m (entry M e i) (x i)) ≡ 0

-- only for x = 0
abbrev pub TrivialKernel : ℕ → ℕ → List (List ℕ) → ℕ → Type 0
TrivialKernel k m M t = (x : ℕ → ℕ) → ((i : ℕ) → x i < 2 ^ k) → Kernel k m M t x → (i : ℕ) → i < t → x i ≡ 0
