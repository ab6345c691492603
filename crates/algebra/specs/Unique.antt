-- The code over any layout of places in groups, and its erasure bound: with excess at most two the lost symbols are determined.
use Rattle.std.specs.Prelude.{◌≡◌, Bool, List, ℕ, ◌-◌, ◌<◌, ◌≤◌, length}
use Rattle.algebra.specs.Field.{Field, pow}
use Rattle.algebra.specs.Lists.{All, Distinct, below, filter, total}
use Rattle.algebra.specs.Sum.{sum, dot}
use Rattle.algebra.specs.Vandermonde.{psum}
use Rattle.algebra.specs.Tower.{Tower, q, Small, coeff}

-- m groups of places with c local equations each; the locators of a group are distinct and in the small field.
pub record Layout (F : Field) (T : Tower F) (P : Type 0) : Type 0 where
  pub m : ℕ
  pub c : ℕ
  pub places : ℕ → List P
  pub group_of : P → ℕ
  pub locator : P → F.K
  pub few : m ≤ T.r
  pub distinct : (i : ℕ) → i < m → Distinct locator (places i)
  pub small : (i : ℕ) → i < m → All (places i) (λ p. Small F T (locator p))
  pub own : (i : ℕ) → i < m → All (places i) (λ p. group_of p ≡ i)

module _ {F : Field} {T : Tower F} {P : Type 0} (L : Layout F T P) where
  open F use {K, add as ◌⊕◌, mul as ◌⊗◌, 𝟘}
  open T use {g}
  open L use {m, c, places, group_of, locator, few, distinct, small, own}

  infixl 65 ◌⊕◌
  infixl 70 ◌⊗◌
  -- Q holds of every place of the word.
  abbrev pub AllPlaces : (P → Type 0) → Type 0
  AllPlaces Q = (i : ℕ) → i < m → All (places i) Q

  -- The inner product over the whole word.
  abbrev pub word-dot : (P → K) → (P → K) → K
  word-dot x h = sum F (below m) (λ i. dot F (places i) x h)

  -- The local equations of every group, and two equations across with the coefficients h₁ and h₂.
  pub record Meets (h₁ h₂ x : P → K) : Type 0 where
    pub locals : (i : ℕ) → i < m → (e : ℕ) → e < c → psum F locator (places i) x e ≡ 𝟘
    pub first : word-dot x h₁ ≡ 𝟘
    pub second : word-dot x h₂ ≡ 𝟘

  -- The code's own coefficients: b, and g^i·b^q in the group i.
  abbrev pub coeff₁ : P → K
  coeff₁ = coeff F T locator c

  abbrev pub coeff₂ : P → K
  coeff₂ p = pow F g (group_of p) ⊗ pow F (coeff₁ p) (q F T)

  abbrev pub Codeword : (P → K) → Type 0
  Codeword x = Meets coeff₁ coeff₂ x

  -- The lost places of a group beyond c, and their number in the whole word.
  abbrev pub excess : (P → Bool) → ℕ → ℕ
  excess lost i = length (filter lost (places i)) - c

  abbrev pub total-excess : (P → Bool) → ℕ
  total-excess lost = total (excess lost) (below m)
