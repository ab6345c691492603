-- Numbers of k binary digits as polynomials over two elements, modulo a polynomial of degree k that is given by the number m.
-- What has more digits is reduced to its last k first, so the laws of sum and product hold of all numbers.
use Rattle.std.specs.Prelude.{ℕ, zero, suc, ◌*◌, ◌/◌, ◌%◌, ◌^◌}
use Rattle.std.proofs.Math.Nat
use Rattle.binary_field.specs.Xor.{◌⊕◌, masked}

-- "Multiply by 2 is a shift left by one; if bit 8 is then set, exclusive or with 285": of numbers of k digits, with bit k and the polynomial m.
unfoldable pub double : ℕ → ℕ → ℕ → ℕ
double k m a = (a * 2 ⊕ masked (a * 2 / 2 ^ k % 2) m) % 2 ^ k

-- the sum of a, 2a, 4a, .. over the set bits among the n lowest of b
unfoldable pub bit_sum : ℕ → ℕ → ℕ → ℕ → ℕ → ℕ
bit_sum k m zero a b = 0
bit_sum k m (suc n) a b = masked (b % 2) a ⊕ bit_sum k m n (double k m a) (b / 2)

-- "The product of two bytes is the sum over the set bits of one of them of the other times that power of two."
unfoldable pub product : ℕ → ℕ → ℕ → ℕ → ℕ
product k m a b = bit_sum k m k (a % 2 ^ k) (b % 2 ^ k)
