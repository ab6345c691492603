-- Counts and totals over the numbers below n.
use Rattle.std.specs.Prelude.{Bool, true, false, ℕ, zero, suc, ◌+◌}

-- 1 for true, 0 for false
abbrev pub one : Bool → ℕ
one true = 1
one false = 0

-- f 0 + f 1 + .. + f (n - 1)
unfoldable pub total_below : ℕ → (ℕ → ℕ) → ℕ
total_below zero f = 0
total_below (suc n) f = total_below n f + f n

-- of how many numbers below n the test holds
abbrev pub count_below : ℕ → (ℕ → Bool) → ℕ
count_below n f = total_below n (λ i. one (f i))
