-- A field over a small field of q elements, the coefficients of the two equations across, and what these equations say of the lost
-- places of one group or two.
use Rattle.std.specs.Prelude.{◌≡◌, List, ℕ, suc, ◌*◌, ◌<◌}
use Rattle.algebra.specs.Field.{Field, pow}
use Rattle.algebra.specs.Lists.{All, Distinct}
use Rattle.algebra.specs.Sum.{dot}
use Rattle.algebra.specs.Vandermonde.{psum}

pub record Tower (F : Field) : Type 0 where
  -- The small field has q = r + 1 elements.
  pub r : ℕ
  pub g : F.K
  -- The Frobenius map a ↦ a^q is additive.
  pub frobenius : (a b : F.K) → pow F (F.add a b) (suc r) ≡ F.add (pow F a (suc r)) (pow F b (suc r))
  -- The power q² − 1 of a nonzero element is one.
  pub fermat : (a : F.K) → ¬ (a ≡ F.𝟘) → pow F a (r * suc (suc r)) ≡ F.𝟙
  -- The powers of g^(q + 1) with exponents from 1 to q − 2 are not one.
  pub order : (d : ℕ) → 0 < d → d < r → ¬ (pow F g (suc (suc r) * d) ≡ F.𝟙)
  -- g is not in the small field.
  pub outside : ¬ (pow F g (suc r) ≡ g)

module _ (F : Field) (T : Tower F) where
  open F use {K, add as ◌⊕◌, mul as ◌⊗◌, 𝟘, 𝟙, one-ne-zero}
  open T use {r, g, frobenius, fermat, order, outside}

  infixl 65 ◌⊕◌
  infixl 70 ◌⊗◌
  abbrev pub q : ℕ
  q = suc r

  -- a is in the small field.
  abbrev pub Small : K → Type 0
  Small a = pow F a q ≡ a

  module _ {P : Type 0} (a : P → K) (c : ℕ) where
    -- The coefficient b of a place in the first equation across; in the second it is g^i·b^q.
    abbrev pub coeff : P → K
    coeff p = pow F (a p) c ⊕ g ⊗ pow F (a p) (suc c)

    -- The share of some places of a group in the first equation, and in the second but for the factor g^i.
    abbrev pub across : List P → (P → K) → K
    across ps x = dot F ps x coeff

    abbrev pub across-q : List P → (P → K) → K
    across-q ps x = dot F ps x (λ p. pow F (coeff p) q)

    -- The lost places of a group and a word on them: distinct small locators, and the c local sums zero.
    pub record Lost (ps : List P) (x : P → K) : Type 0 where
      pub distinct : Distinct a ps
      pub small : All ps (λ p. Small (a p))
      pub locals : (e : ℕ) → e < c → psum F a ps x e ≡ 𝟘
