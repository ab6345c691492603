-- With excess above two, no two equations across determine the lost symbols, whatever their coefficients.
use Rattle.std.specs.Prelude.{◌≡◌, Bool, false, ℕ, ◌<◌}
use Rattle.algebra.specs.Field.{Field}
use Rattle.algebra.specs.Lists.{◌∈◌}
use Rattle.algebra.specs.Tower.{Tower}
use Rattle.algebra.specs.Unique.{Layout, Meets}

module _ {F : Field} {T : Tower F} {P : Type 0} (L : Layout F T P) where
  open F use {K, mul as ◌⊗◌, 𝟘, 𝟙, dec}
  open L use {m, c, places, group_of, locator, distinct, own}

  infixl 70 ◌⊗◌
  -- A nonzero word on the lost places that meets the local equations and the two across. Added to a word that meets them it gives
  -- another, which agrees with the first off the lost places.
  pub record Hidden (lost : P → Bool) (h₁ h₂ : P → K) : Type 0 where
    pub x : P → K
    pub off : (p : P) → ((i : ℕ) → i < m → p ∈ places i → lost p ≡ false) → x p ≡ 𝟘
    pub group : ℕ
    pub group-less : group < m
    pub place : P
    pub inside : place ∈ places group
    pub nonzero : ¬ (x place ≡ 𝟘)
    pub meets : Meets L h₁ h₂ x
