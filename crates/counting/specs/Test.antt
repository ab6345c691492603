-- Tests that are computed once, over all numbers below a bound or along a list, and what they show at each.
use Rattle.std.specs.Prelude.{Bool, true, false, ◌&&◌, ◌||◌, ℕ, zero, suc}

-- f holds of every number below n
abbrev pub all_below : ℕ → (ℕ → Bool) → Bool
all_below zero f = true
all_below (suc n) f = f n && all_below n f

-- f holds of some number below n
abbrev pub any_below : ℕ → (ℕ → Bool) → Bool
any_below zero f = false
any_below (suc n) f = f n || any_below n f

-- both hold or neither
abbrev pub same : Bool → Bool → Bool
same true b = b
same false true = false
same false false = true
