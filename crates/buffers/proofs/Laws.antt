-- A loop that writes one element a turn: what the elements passed are.
use mathlib.Core.Path.{◌≡◌, sym, ap, ◌∙◌}
use mathlib.Core.List.{List}
use Prim.Native.Nat.{ℕ, ◌+◌, ◌<◌}
use native.Mathlib.Omega.{arith}
use native.Mathlib.Decide.{ℕ_discrete}
use lib.ListN.{length, get_or, set}
use lib.Seq.{get_or-set_same, get_or-set_other}

-- the elements below i are those of f, and v is written at i
pub passed-set : (f : ℕ → ℕ) (xs : List ℕ) (i v : ℕ) → i < length xs → v ≡ f i → ((k : ℕ) → k < i → get_or xs k 0 ≡ f k)
    → (k : ℕ) → k < i + 1 → get_or (set xs i v) k 0 ≡ f k
passed-set f xs i v l e h k b = elim (ℕ_discrete k i) [
  | yes q ↦ ap (λ n. get_or (set xs i v) n 0) q ∙ get_or-set_same xs i v 0 l ∙ e ∙ ap f (sym q)
  | no q ↦ get_or-set_other xs i k v 0 q ∙ h k (omega arith)
]
