-- One group by its own equations: with more lost places than equations they do not determine the lost symbols; with as many kept places as
-- equations, a one at another place is completed on the kept places to a word that meets them.
use Rattle.std.specs.Prelude.{◌≡◌, Bool, false, ℕ, ◌<◌, length}
use Rattle.algebra.specs.Field.{Field}
use Rattle.algebra.specs.Lists.{◌∈◌, filter}
use Rattle.algebra.specs.Vandermonde.{psum}
use Rattle.algebra.specs.Tower.{Tower}
use Rattle.algebra.specs.Flat.{Geometry, group, locator}

module _ {F : Field} {T : Tower F} (G : Geometry F T) where
  open F use {K, mul as ◌⊗◌, 𝟘, 𝟙, inv, mul-inv}

  infixl 70 ◌⊗◌
  -- A nonzero word on the lost places of the group i that meets its first v local equations.
  pub record HiddenGroup (i v : ℕ) (lost : ℕ → Bool) : Type 0 where
    pub x : ℕ → K
    pub off : (p : ℕ) → lost p ≡ false → x p ≡ 𝟘
    pub outside : (p : ℕ) → ¬ (p ∈ group G i) → x p ≡ 𝟘
    pub place : ℕ
    pub inside : place ∈ group G i
    pub nonzero : ¬ (x place ≡ 𝟘)
    pub meets : (e : ℕ) → e < v → psum F (locator G) (group G i) x e ≡ 𝟘

  -- A word of the group i that is one at the place p and zero at every other place that is not kept, and meets as many local equations as
  -- places are kept.
  pub record WayGroup (i p : ℕ) (kept : ℕ → Bool) : Type 0 where
    pub x : ℕ → K
    pub own : x p ≡ 𝟙
    pub off : (q : ℕ) → kept q ≡ false → ¬ (q ≡ p) → x q ≡ 𝟘
    pub outside : (q : ℕ) → ¬ (q ∈ group G i) → x q ≡ 𝟘
    pub meets : (e : ℕ) → e < length (filter kept (group G i)) → psum F (locator G) (group G i) x e ≡ 𝟘
