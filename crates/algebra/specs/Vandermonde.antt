-- The sums Σ x·a^e over places with locators a: what v of them that are zero say of v places, and of v + 1.
use Rattle.std.specs.Prelude.{List, ℕ}
use Rattle.algebra.specs.Field.{Field, pow}
use Rattle.algebra.specs.Sum.{dot}

module _ (F : Field) {P : Type 0} (a : P → F.K) where
  open F use {K, add as ◌⊕◌, mul as ◌⊗◌, 𝟘}

  infixl 65 ◌⊕◌
  infixl 70 ◌⊗◌
  -- The sum of x·a^e over the places.
  abbrev pub psum : List P → (P → K) → ℕ → K
  psum ps x e = dot F ps x (λ p. pow F (a p) e)
