-- The lowest number below a bound that passes a test.
use Rattle.std.specs.Prelude.{Bool, cond, ℕ, zero, suc}

-- the lowest i below n of which f holds; n where it holds of none
unfoldable pub first_below : ℕ → (ℕ → Bool) → ℕ
first_below zero f = zero
first_below (suc n) f = cond (f zero) zero (suc (first_below n (λ i. f (suc i))))
