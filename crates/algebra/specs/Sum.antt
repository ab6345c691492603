-- Sums over a list of places, and the inner product of two functions of the places.
use Rattle.std.specs.Prelude.{List, [], ◌∷◌}
use Rattle.algebra.specs.Field.{Field}

module _ (F : Field) {A : Type 0} where
  open F use {K, add as ◌⊕◌, mul as ◌⊗◌, 𝟘, 𝟙}

  infixl 65 ◌⊕◌
  infixl 70 ◌⊗◌
  -- The sum of f over the list.
  unfoldable pub sum : List A → (A → K) → K
  sum [] f = 𝟘
  sum (p ∷ ps) f = f p ⊕ sum ps f

  -- The inner product over the places.
  abbrev pub dot : List A → (A → K) → (A → K) → K
  dot ps x h = sum ps (λ p. x p ⊗ h p)
