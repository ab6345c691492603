-- Numbers whose binary digits stand three places apart: the digits to the base 8 of such a number are 0 and 1.
use Rattle.std.specs.Prelude.{ℕ, zero, suc, ◌+◌, ◌*◌, ◌%◌, ◌≤◌}

-- the binary digits 0, 3, 6, .. set, n of them
abbrev pub spaced : ℕ → ℕ
spaced zero = 0
spaced (suc n) = spaced n * 8 + 1

-- the digits of z to the base 8 are at most k, and those of c are their last binary digits
pub data Parities (k : ℕ) : ℕ → ℕ → Type 0 where
  none : Parities k 0 0
  more : {z c : ℕ} (d : ℕ) → d ≤ k → Parities k z c → Parities k (z * 8 + d) (c * 8 + d % 2)
