-- Laws: The locators form the small field. A symbol a with a^q = a that were no locator would make q + 1 different roots: of the powers 0 to
-- q − 1 of these some sums with factors not all 0 are zero, that of the power q is that of the power 1, and so all factors would be 0.
use Rattle.std.specs.Prelude.{◌≡◌, Bool, true, false, cond, List, map, ℕ, suc, ◌-◌, ◌^◌, ◌≤◌, ◌<◌, T, eqb, ltb, length}
use Rattle.std.proofs.Math.Path.{refl, ap, ap₂}
use Rattle.std.proofs.Common.{sym, ◌∙◌, subst, arith, lt-ltb, le-ltb, eqb→eq, pow_pos}
use mathlib.Core.List.Memᴰ
use Rattle.std.proofs.Math.Decide.{ℕ_discrete, dec_lt}
use Rattle.std.proofs.lemmas.Bool.{eqb-false}
use Rattle.std.proofs.lemmas.List.{length-map}
use Rattle.counting.specs.Test.{any_below}
use Rattle.counting.specs.TestLaws.{any_at, none-at}
use Rattle.algebra.specs.Field.{Field, pow}
use Rattle.algebra.specs.FieldLaws.{pow-one}
use Rattle.algebra.specs.Lists.{below}
use Rattle.algebra.specs.ListsLaws.{length-below, below_less, in-below, distinct-below, below-distinct}
use Rattle.algebra.specs.SumLaws.{sum-ext}
use Rattle.algebra.specs.Vandermonde.{psum}
use Rattle.algebra.specs.VandermondeLaws.{vandermonde}
use Rattle.algebra.specs.Kernel.{Kernel}
use Rattle.algebra.specs.KernelLaws.{kernel}
use Rattle.binary_field.specs.Xor.{◌⊕◌}
use Rattle.binary_field.specs.XorLaws.{⊕-lt}
use Rattle.binary_field.specs.ProductLaws.{product_lt, zero-product}
use Rattle.binary_field.specs.PowerLaws.{power-suc, power-swap, one_power, product-power, frobenius}
use Rattle.binary_field.specs.Inverse.{inverse}
use Rattle.binary_field.specs.InverseLaws.{inverse-lt, product-inverse}
use Rattle.binary_field.specs.Element.{Element, element}
use Rattle.binary_field.specs.ElementLaws.{one-lt, field, same-value, pow-value}
use Rattle.code.specs.Edition.{Edition, Sound, times, raised}
use Rattle.byte_edition.specs.Edition.{byte_edition}
use Rattle.byte_edition.specs.EditionLaws.{bytes-sound}
use Rattle.wide_shape.specs.Edition.{wide_edition}
use Rattle.wide_shape.specs.EditionLaws.{wide-sound}
use Rattle.theorems.specs.Subfield.{IsLocator, LocatorsSubfield}

-- in a field, at most q different elements have a^q = a
few-roots : (F : Field) (q : ℕ) (a : ℕ → F.K) → 1 < q → ((i j : ℕ) → i < suc q → j < suc q → ¬ (i ≡ j) → ¬ (a i ≡ a j))
    → ((j : ℕ) → j < suc q → pow F (a j) q ≡ a j) → ⊥
few-roots F q a large apart fixed = K.nonzero (vandermonde F a ps K.x (distinct-below a (suc q) apart) zero K.place K.inside)
  where
    ps : List ℕ
    ps = below (suc q)

    row : ℕ → ℕ → F.K
    row e p = pow F (a p) e

    K : Kernel F ℕ_discrete ps (map row (below q))
    K = kernel F ℕ_discrete ps (below-distinct (suc q)) (map row (below q)) (omega (arith, length-map (below q) row, length-below q))

    lower : (e : ℕ) → e < q → psum F a ps K.x e ≡ F.𝟘
    lower e l = K.meets (row e) (Memᴰ.map row (in-below q e l))

    last : psum F a ps K.x q ≡ F.𝟘
    last = sum-ext F ps _ _ (λ p i. ap (λ b. F.mul (K.x p) b) (fixed p (below_less (suc q) p i) ∙ sym (pow-one F (a p)))) ∙ lower 1 large

    zero : (e : ℕ) → e < length ps → psum F a ps K.x e ≡ F.𝟘
    zero e l = elim (dec_lt e q) [
      | yes h ↦ lower e h
      | no h ↦ (let n = length-below q in let k : e ≡ q = omega arith in subst (λ n. psum F a ps K.x n ≡ F.𝟘) (sym k) last)
    ]

-- the locators, and after them one more symbol
one_more : Edition → ℕ → ℕ → ℕ
one_more E a j = cond (ltb j E.small) (E.locator j) a

module _ {E : Edition} (S : Sound E) where
  -- a symbol with a^q = a that is no locator
  module _ (a : ℕ) (a_lt : a < 2 ^ E.bits) (a-fixed : raised E a E.small ≡ a) (other : (j : ℕ) → j < E.small → ¬ (E.locator j ≡ a)) where
    before : (j : ℕ) → j < E.small → one_more E a j ≡ E.locator j
    unfolding one_more
    before j l = rw (lt-ltb j E.small l) refl

    last : (j : ℕ) → E.small ≤ j → one_more E a j ≡ a
    unfolding one_more
    last j l = rw (le-ltb j E.small l) refl

    more_lt : (j : ℕ) → one_more E a j < 2 ^ E.bits
    more_lt j = elim (dec_lt j E.small) [
      | yes h ↦ subst (λ n. n < 2 ^ E.bits) (sym (before j h)) (S.locator-lt j h)
      | no h ↦ subst (λ n. n < 2 ^ E.bits) (sym (last j (omega arith))) a_lt
    ]

    more-fixed : (j : ℕ) → raised E (one_more E a j) E.small ≡ one_more E a j
    more-fixed j = elim (dec_lt j E.small) [
      | yes h ↦ (rw (before j h) (S.locator-fixed j h))
      | no h ↦ (let e = last j (omega arith) in rw e a-fixed)
    ]

    more-apart : (i j : ℕ) → i < suc E.small → j < suc E.small → ¬ (i ≡ j) → ¬ (one_more E a i ≡ one_more E a j)
    more-apart i j hi hj n e = elim (dec_lt i E.small) [
      | yes h ↦ elim (dec_lt j E.small) [
        | yes k ↦ S.locator-apart i j h k n (sym (before i h) ∙ e ∙ before j k)
        | no k ↦ other i h (sym (before i h) ∙ e ∙ last j (omega arith))
      ]
      | no h ↦ elim (dec_lt j E.small) [
        | yes k ↦ other j k (sym (before j k) ∙ sym e ∙ last i (omega arith))
        | no k ↦ n (omega arith)
      ]
    ]

    pub no_other : ⊥
    no_other =
        few-roots (field S.facts) E.small (λ j. element E.bits (one_more E a j) (more_lt j)) (let l = S.facts.large in let e = S.small_is in omega arith)
        (λ i j hi hj n e. more-apart i j hi hj n (ap (λ (x : Element E.bits). x.0) e))
        (λ j h. same-value E.bits (pow-value S.facts (element E.bits (one_more E a j) (more_lt j)) E.small ∙ more-fixed j))

  -- the symbols with a^q = a are just the locators
  fixed-locator : (a : ℕ) → a < 2 ^ E.bits → raised E a E.small ≡ a → IsLocator E a
  fixed-locator a l e = go (any_below E.small (λ j. eqb (E.locator j) a)) refl
    where
      go : (b : Bool) → any_below E.small (λ j. eqb (E.locator j) a) ≡ b → IsLocator E a
      go true t =
          let w = any_at E.small (λ j. eqb (E.locator j) a) (subst T (sym t) tt) in
          record { place = w.0; inside = w.1; is = eqb→eq (E.locator w.0) a w.2 }
      go false f = absurd (no_other a l e (λ j h. eqb-false (E.locator j) a (none-at E.small (λ j. eqb (E.locator j) a) f j h)))

  pos : 0 < E.bits
  pos = S.facts.pos

  digits : E.small ≡ 2 ^ S.facts.half_digits
  digits = S.small_is ∙ S.facts.size

  sum-fixed : (a b : ℕ) → raised E a E.small ≡ a → raised E b E.small ≡ b → raised E (a ⊕ b) E.small ≡ a ⊕ b
  sum-fixed a b e f =
      ap (raised E (a ⊕ b)) digits ∙ frobenius E.bits E.poly pos a b S.facts.half_digits
      ∙ ap₂ ◌⊕◌ (ap (raised E a) (sym digits) ∙ e) (ap (raised E b) (sym digits) ∙ f)

  zero-fixed : raised E 0 E.small ≡ 0
  zero-fixed = ap (raised E 0) S.small_is ∙ power-suc E.bits E.poly 0 S.r ∙ zero-product E.bits E.poly _

  pub locators-subfield : LocatorsSubfield E
  unfolding inverse
  locators-subfield = record {
    apart = S.locator-apart;
    symbol = S.locator-lt;
    fixed = S.locator-fixed;
    only = fixed-locator;
    zero = fixed-locator 0 (pow_pos E.bits) zero-fixed;
    one = fixed-locator 1 (one-lt S.facts) (one_power E.bits E.poly pos E.small);
    sum = λ i j hi hj.
        fixed-locator _ (⊕-lt E.bits _ _ (S.locator-lt i hi) (S.locator-lt j hj)) (sum-fixed _ _ (S.locator-fixed i hi) (S.locator-fixed j hj));
    product = λ i j hi hj.
        fixed-locator _ (product_lt E.bits E.poly _ _)
        (product-power E.bits E.poly pos _ _ E.small ∙ ap₂ (times E) (S.locator-fixed i hi) (S.locator-fixed j hj));
    inverse = λ j h.
        fixed-locator _ (inverse-lt E.bits E.poly pos (E.locator j))
        (power-swap E.bits E.poly pos (E.locator j) (2 ^ E.bits - 2) E.small ∙ ap (λ b. raised E b (2 ^ E.bits - 2)) (S.locator-fixed j h));
    inverted = λ j h n.
        product-inverse E.bits E.poly S.facts.pos S.facts.values S.facts.tested (E.locator j) (S.locator-lt j h) n;
  }

-- "They form the subfield of 16 elements."
pub bytes-subfield : LocatorsSubfield byte_edition
bytes-subfield = locators-subfield bytes-sound

-- "the small field 256"
pub wide-subfield : LocatorsSubfield wide_edition
wide-subfield = locators-subfield wide-sound
