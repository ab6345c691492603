-- Sets of numbers as ascending lists, in the order of their size and then of their numbers, and the first that passes a test.
use Rattle.std.specs.Prelude.{◌≡◌, ◌⊎◌, Bool, false, cond, ◌||◌, List, [], ◌∷◌, ◌++◌, map, ℕ, zero, suc, ◌<◌, ◌≤◌, eqb}
use Rattle.std.proofs.Math.Option.{Option, none, some}

-- whether j is one of the numbers
abbrev pub is_in : ℕ → List ℕ → Bool
is_in j [] = false
is_in j (i ∷ s) = eqb j i || is_in j s

-- a set of numbers from a to w - 1: each once, in ascending order
abbrev pub IsSet : ℕ → ℕ → List ℕ → Type 0
IsSet a w [] = Unit
IsSet a w (j ∷ s) = (a ≤ j) × (j < w) × IsSet (suc j) w s

-- s comes before t, of the same size: at the first number in which they differ, s has the smaller one
abbrev pub Before : List ℕ → List ℕ → Type 0
Before [] t = ⊥
Before (i ∷ s) [] = ⊥
Before (i ∷ s) (j ∷ t) = (i < j) ⊎ ((i ≡ j) × Before s t)

-- the sets of k numbers from a to a + n - 1, the smallest numbers first
unfoldable pub sets_of : ℕ → ℕ → ℕ → List (List ℕ)
sets_of zero a n = [] ∷ []
sets_of (suc k) a zero = []
sets_of (suc k) a (suc n) = map (λ s. a ∷ s) (sets_of k (suc a) n) ++ sets_of (suc k) (suc a) n

-- the sets of fewer than k numbers below w, the fewest numbers first and then the smallest
unfoldable pub sets_below : ℕ → ℕ → List (List ℕ)
sets_below zero w = []
sets_below (suc k) w = sets_below k w ++ sets_of k 0 w

-- the first of a list that passes a test
unfoldable pub first_in : (List ℕ → Bool) → List (List ℕ) → Option (List ℕ)
first_in f [] = none
first_in f (s ∷ ss) = cond (f s) (some s) (first_in f ss)
