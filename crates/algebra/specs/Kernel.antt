-- A homogeneous linear system with more unknowns than equations has a nonzero solution.
use Rattle.std.specs.Prelude.{◌≡◌, List}
use mathlib.Core.HLevel.{Discrete}
use Rattle.algebra.specs.Field.{Field}
use Rattle.algebra.specs.Lists.{◌∈◌, All}
use Rattle.algebra.specs.Sum.{dot}

module _ (F : Field) {P : Type 0} (same : Discrete P) where
  open F use {K, add as ◌⊕◌, mul as ◌⊗◌, 𝟘, 𝟙, inv, dec, one-ne-zero, mul-inv}

  infixl 65 ◌⊕◌
  infixl 70 ◌⊗◌
  -- A nonzero solution that is zero off the places ps.
  pub record Kernel (ps : List P) (eqs : List (P → K)) : Type 0 where
    pub x : P → K
    pub off : (p : P) → ¬ (p ∈ ps) → x p ≡ 𝟘
    pub place : P
    pub inside : place ∈ ps
    pub nonzero : ¬ (x place ≡ 𝟘)
    pub meets : All eqs (λ h. dot F ps x h ≡ 𝟘)
