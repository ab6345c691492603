-- The order of an element: the first power that is 1, by walks that compute.
use Rattle.std.specs.Prelude.{◌≡◌, Bool, not, ◌&&◌, ℕ, zero, suc, ◌<◌, eqb}
use Rattle.binary_field.specs.Product.{product}
use Rattle.binary_field.specs.Power.{power}

-- a, a g, a g g, ..: none of the first n is 1, and the next is
unfoldable pub returns_at : ℕ → ℕ → ℕ → ℕ → ℕ → Bool
returns_at k m zero g a = eqb a 1
returns_at k m (suc n) g a = not (eqb a 1) && returns_at k m n g (product k m a g)

-- g is of order n + 1
abbrev pub has_order : ℕ → ℕ → ℕ → ℕ → Bool
has_order k m g n = returns_at k m n g g

-- the first positive power of g that is 1 is the power N
pub record Order (k m g N : ℕ) : Type 0 where
  pub end : power k m g N ≡ 1
  pub first : (i : ℕ) → i < N → power k m g i ≡ 1 → i ≡ 0
