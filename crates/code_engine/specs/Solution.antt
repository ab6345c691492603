-- Elimination keeps the solutions of a system of t equations in t unknowns, with the right side in column r; and where the
-- coefficients have a trivial kernel, column r of what is left is the only solution.
use Rattle.std.specs.Prelude.{◌≡◌, List, ℕ, ◌^◌, ◌<◌}
use Rattle.binary_field.specs.Product.{product}
use Rattle.binary_field.specs.Sum.{sum_below}
use Rattle.code_engine.specs.Elimination.{entry}

-- each of the t equations holds of x
abbrev pub Solves : ℕ → ℕ → List (List ℕ) → ℕ → ℕ → (ℕ → ℕ) → Type 0
Solves k m M t r x = (e : ℕ) → e < t → sum_below t (λ i. product k m (entry M e i) (x i)) ≡ entry M e r

-- x is the solution of k digits, and the only one
pub record OnlySolution (k m : ℕ) (M : List (List ℕ)) (t r : ℕ) (x : ℕ → ℕ) : Type 0 where
  pub solves : Solves k m M t r x
  pub small : (i : ℕ) → i < t → x i < 2 ^ k
  pub only : (y : ℕ → ℕ) → ((i : ℕ) → i < t → y i < 2 ^ k) → Solves k m M t r y → (i : ℕ) → i < t → y i ≡ x i
