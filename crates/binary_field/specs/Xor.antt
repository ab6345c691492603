-- Exclusive or, the sum of the field, and a number masked by a digit. Every law holds of all numbers.
use Rattle.std.specs.Prelude.{ℕ, zero, suc}
use Rattle.std.specs.Int.Bits.{bit_xor}

infixl 60 ◌⊕◌
-- "Addition is exclusive or."
unfoldable pub ◌⊕◌ : ℕ → ℕ → ℕ
a ⊕ b = bit_xor a b

-- ---- a number, or 0 where the digit is 0
unfoldable pub masked : ℕ → ℕ → ℕ
masked zero a = 0
masked (suc d) a = a
