-- When the ring is a field, by two tests that compute on k numbers each:
--   x ^ (2 ^ k) = x, by k squarings; then every element is its own 2 ^ k-th power;
--   a linear map, given by its k values at 1, 2, 4, .., takes e ^ 2 + e back to e less its digit 0; then e ^ 2 = e only for 0 and 1.
use Rattle.std.specs.Prelude.{Bool, ◌&&◌, List, [], ◌∷◌, ℕ, ◌-◌, ◌*◌, ◌/◌, ◌%◌, ◌^◌, eqb}
use Rattle.binary_field.specs.Xor.{◌⊕◌, masked}
use Rattle.counting.specs.Test.{all_below}
use Rattle.binary_field.specs.Product.{double, product}
use Rattle.binary_field.specs.Power.{power, squares}

-- ---- a linear map by its values at 1, 2, 4, ..
unfoldable pub linear_map : List ℕ → ℕ → ℕ
linear_map [] a = 0
linear_map (t ∷ ts) a = masked (a % 2) t ⊕ linear_map ts (a / 2)

-- the two tests
unfoldable pub is_field : ℕ → ℕ → List ℕ → Bool
is_field k m ts =
    eqb (squares k m k (double k m 1)) (double k m 1)
    && all_below k (λ i. eqb (linear_map ts (product k m (2 ^ i) (2 ^ i) ⊕ 2 ^ i)) (2 ^ i / 2 * 2))

-- the inverse of what is not 0
unfoldable pub inverse : ℕ → ℕ → ℕ → ℕ
inverse k m a = power k m a (2 ^ k - 2)
