-- Laws that the proofs of the functions share.
use mathlib.Core.Path.{◌≡◌, ap, ◌∙◌, sym}
use mathlib.Core.List.{List}
use Prim.Native.Nat.{ℕ, ◌+◌, ◌<◌}
use native.Mathlib.Decide.{ℕ_discrete}
use native.Mathlib.Omega.{arith}
use lib.ListN.{length, get_or, set}
use lib.Seq.{get_or-set_same, get_or-set_other}

-- a row whose entries below i are f's, and one more of them
pub row-set : (f : ℕ → ℕ) (r : List ℕ) (i v : ℕ) → i < length r → v ≡ f i → ((j : ℕ) → j < i → get_or r j 0 ≡ f j)
    → (j : ℕ) → j < i + 1 → get_or (set r i v) j 0 ≡ f j
row-set f r i v l e below j h = elim (ℕ_discrete j i) [
  | yes q ↦ ap (λ k. get_or (set r i v) k 0) q ∙ get_or-set_same r i v 0 l ∙ e ∙ ap f (sym q)
  | no q ↦ get_or-set_other r i j v 0 q ∙ below j (omega arith)
]
