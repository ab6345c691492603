-- An array of arrays of numbers is a system of as many equations as it has rows: a caller's `good` of such a parameter shows it.
use mathlib.Core.Path.{◌≡◌}
use mathlib.Core.List.{List, [], ◌∷◌}
use Prim.Native.Nat.{ℕ, zero, suc, ◌≤◌, ◌<◌}
use native.Mathlib.Omega.{arith}
use lib.ListN.{length}
use lib.Pow.{pow_pos}
use mir.Syntax.{Width}
use mir.Val.{Val, bits}
use denote.Array.{Array, each}
use denote.Laws.{Is}
use denote.Plain.{UInt}
use denote.Shadow.{shadow}
use Rattle.code_engine.specs.Elimination.{row}
use Rattle.code_engine.specs.EliminationRows.{Small}
use Rattle.code_engine.specs.EliminationSteps.{System}

module _ (w : Width) where
  row_small : (xs : List ℕ) (us : List Val) → shadow (each ℕ (UInt w).own_val xs us) → Small (bits w) xs
  row_small [] us p c = pow_pos (bits w)
  row_small (x ∷ xs) [] p c = absurd p
  row_small (x ∷ xs) (u ∷ us) p zero = p.0.1
  row_small (x ∷ xs) (u ∷ us) p (suc c) = row_small xs us p.1 c

  -- a row alone
  pub array-small : (n : ℕ) (xs : List ℕ) (vs : List Val) → Is (Array (UInt w) n) xs vs → Small (bits w) xs
  array-small n xs vs p = row_small xs p.0 p.1.1

  rows-small : (n : ℕ) (M : List (List ℕ)) (us : List Val) → shadow (each (List ℕ) (Array (UInt w) n).own_val M us) → (e : ℕ) → Small (bits w) (row M e)
  rows-small n [] us p e = λ c. pow_pos (bits w)
  rows-small n (xs ∷ M) [] p e = absurd p
  rows-small n (xs ∷ M) (u ∷ us) p zero = row_small xs p.0.0 p.0.1.1
  rows-small n (xs ∷ M) (u ∷ us) p (suc e) = rows-small n M us p.1 e

  pub array-system : (n r : ℕ) (M : List (List ℕ)) (vs : List Val) → Is (Array (Array (UInt w) n) r) M vs → (t : ℕ) → t ≤ r → System (bits w) M t
  array-system n r M vs p t h = record { long = let l = p.1.0.1 in omega arith; small = λ e _. rows-small n M p.0 p.1.1 e }

  rows-each : (n : ℕ) (M : List (List ℕ)) (us : List Val) → shadow (each (List ℕ) (Array (UInt w) n).own_val M us) → (e : ℕ) → e < length M → length (row M e) ≡ n
  rows-each n [] us p e h = absurd (omega arith)
  rows-each n (xs ∷ M) [] p e h = absurd p
  rows-each n (xs ∷ M) (u ∷ us) p zero h = let l = p.0.1.0.1 in omega arith
  rows-each n (xs ∷ M) (u ∷ us) p (suc e) h = rows-each n M us p.1 e (omega arith)

  -- as many rows, and each as long, as the type says
  pub array-rows : (n r : ℕ) (M : List (List ℕ)) (vs : List Val) → Is (Array (Array (UInt w) n) r) M vs → (length M ≡ r)
      × ((e : ℕ) → e < r → length (row M e) ≡ n)
  array-rows n r M vs p = let l = p.1.0.1 in (omega arith, λ e h. rows-each n M p.0 p.1.1 e (omega arith))
