-- The flat word of m groups of w places: place t of group i stands at i·w + t.
use Rattle.std.specs.Prelude.{◌≡◌, List, map, ℕ, ◌+◌, ◌*◌, ◌%◌, ◌<◌, ◌≤◌}
use Rattle.algebra.specs.Field.{Field}
use Rattle.algebra.specs.Lists.{below}
use Rattle.algebra.specs.Tower.{Tower, Small}

-- m groups of w places with c local equations each, and the locator of each place of a group.
pub record Geometry (F : Field) (T : Tower F) : Type 0 where
  pub m : ℕ
  pub w : ℕ
  pub c : ℕ
  pub loc : ℕ → F.K
  pub few : m ≤ T.r
  pub wide : 0 < w
  pub apart : (s t : ℕ) → s < w → t < w → ¬ (s ≡ t) → ¬ (loc s ≡ loc t)
  pub small : (t : ℕ) → t < w → Small F T (loc t)

module _ {F : Field} {T : Tower F} (G : Geometry F T) where
  open F use {K, add as ◌⊕◌, 𝟘}
  open G use {m, w, c, loc, few, wide, apart, small}

  infixl 65 ◌⊕◌
  -- The places of the group i.
  abbrev pub group : ℕ → List ℕ
  group i = map (λ t. i * w + t) (below w)

  -- The locator of a place of the word.
  abbrev pub locator : ℕ → K
  locator p = loc (p % w)
