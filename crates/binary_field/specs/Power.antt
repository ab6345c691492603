-- Powers, and that a power of two as exponent is additive (Frobenius).
use Rattle.std.specs.Prelude.{ℕ, zero, suc}
use Rattle.std.proofs.Math.Nat
use Rattle.binary_field.specs.Product.{product}

-- a to the power n; "0 to the power 0 is 1 here"
unfoldable pub power : ℕ → ℕ → ℕ → ℕ → ℕ
power k m a zero = 1
power k m a (suc n) = product k m a (power k m a n)

-- a squared n times over
unfoldable pub squares : ℕ → ℕ → ℕ → ℕ → ℕ
squares k m zero a = a
squares k m (suc n) a = product k m (squares k m n a) (squares k m n a)
