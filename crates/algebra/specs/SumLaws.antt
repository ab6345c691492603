-- Laws: Sums over a list of places, and the inner product of two functions of the places.
use Rattle.std.specs.Prelude.{◌≡◌, Bool, false}
use Rattle.std.proofs.Math.Path.{refl, ap₂}
use Rattle.std.proofs.Common.{sym, ◌∙◌, ap}
use mathlib.Core.List.Memᴰ.{head as here}
use mathlib.Core.List.Memᴰ.{tail as there}
use mathlib.Core.List.{List, [], ◌∷◌, ◌++◌, flat_map}
use Rattle.algebra.specs.Field.{Field}
use Rattle.algebra.specs.FieldLaws.{ring, add-zero, zero-add, add-self, zero-mul, distrib-right}
use Rattle.algebra.specs.Lists.{◌∈◌, All, Distinct, filter}
use Rattle.algebra.specs.ListsLaws.{filter-elim}
use Rattle.algebra.specs.Sum.{sum, dot}

module _ (F : Field) {A : Type 0} where
  open F use {K, add as ◌⊕◌, mul as ◌⊗◌, 𝟘, 𝟙}

  infixl 65 ◌⊕◌
  infixl 70 ◌⊗◌
  pub sum-nil : (f : A → K) → sum F [] f ≡ 𝟘
  unfolding sum
  sum-nil f = refl

  pub sum-cons : (p : A) (ps : List A) (f : A → K) → sum F (p ∷ ps) f ≡ f p ⊕ sum F ps f
  unfolding sum
  sum-cons p ps f = refl

  pub sum-ext : (ps : List A) (f g : A → K) → All ps (λ p. f p ≡ g p) → sum F ps f ≡ sum F ps g
  unfolding sum
  sum-ext [] f g h = refl
  sum-ext (p ∷ ps) f g h = ap₂ ◌⊕◌ (h p (here refl)) (sum-ext ps f g (λ q m. h q (there m)))

  pub sum-add : (ps : List A) (f g : A → K) → sum F ps (λ p. f p ⊕ g p) ≡ sum F ps f ⊕ sum F ps g
  sum-add [] f g = simp (sum-nil, ring)
  sum-add (p ∷ ps) f g = simp (sum-cons, sum-add ps f g, ring)

  pub sum-scale : (ps : List A) (c : K) (f : A → K) → sum F ps (λ p. c ⊗ f p) ≡ c ⊗ sum F ps f
  sum-scale [] c f = simp (sum-nil, ring)
  sum-scale (p ∷ ps) c f = simp (sum-cons, sum-scale ps c f, ring)

  pub sum-zero : (ps : List A) (f : A → K) → All ps (λ p. f p ≡ 𝟘) → sum F ps f ≡ 𝟘
  sum-zero [] f h = sum-nil f
  sum-zero (p ∷ ps) f h = sum-cons p ps f ∙ ap₂ ◌⊕◌ (h p (here refl)) (sum-zero ps f (λ q m. h q (there m))) ∙ add-self F 𝟘

  -- Only one summand is not zero.
  pub sum-single : (ps : List A) → Distinct (λ p. p) ps → (f : A → K) {p : A} → p ∈ ps → All ps (λ q. ¬ (q ≡ p) → f q ≡ 𝟘) → sum F ps f ≡ f p
  sum-single [] d f {p = p} x3 z = elim x3 [ ]
  sum-single (q ∷ ps) d f (here e) z =
      sum-cons q ps f ∙ ap₂ ◌⊕◌ (ap f (sym e)) (sum-zero ps f (λ r m. z r (there m) (λ k. d.0 r m (k ∙ e)))) ∙ add-zero F _
  sum-single (q ∷ ps) d f {p} (there m) z =
      sum-cons q ps f ∙ ap₂ ◌⊕◌ (z q (here refl) (λ k. d.0 p m (sym k))) (sum-single ps d.1 f m (λ r k. z r (there k))) ∙ zero-add F _

  -- Summands that are zero may be left out.
  pub sum-filter : (test : A → Bool) (ps : List A) (f : A → K) → All ps (λ p. test p ≡ false → f p ≡ 𝟘) → sum F (filter test ps) f ≡ sum F ps f
  sum-filter test ps f = filter-elim test (λ l k. All l (λ p. test p ≡ false → f p ≡ 𝟘) → sum F k f ≡ sum F l f)
      (λ z. refl)
      (λ p l k e h z. sum-cons p k f ∙ ap (λ s. f p ⊕ s) (h (λ q m. z q (there m))) ∙ sym (sum-cons p l f))
      (λ p l k e h z. sym (sum-cons p l f ∙ ap₂ ◌⊕◌ (z p (here refl) e) (sym (h (λ q m. z q (there m)))) ∙ zero-add F _))
      ps

  sum-append : (ps qs : List A) (f : A → K) → sum F (ps ++ qs) f ≡ sum F ps f ⊕ sum F qs f
  sum-append [] qs f = simp (sum-nil, ring)
  sum-append (p ∷ ps) qs f = simp (sum-cons, sum-append ps qs f, ring)

  pub dot-add : (ps : List A) (x y h : A → K) → dot F ps (λ p. x p ⊕ y p) h ≡ dot F ps x h ⊕ dot F ps y h
  dot-add ps x y h = sum-ext ps _ _ (λ p _. distrib-right F (x p) (y p) (h p)) ∙ sum-add ps _ _

  pub dot-zero : (ps : List A) (x h : A → K) → All ps (λ p. x p ≡ 𝟘) → dot F ps x h ≡ 𝟘
  dot-zero ps x h z = sum-zero ps _ (λ p m. ap (λ s. s ⊗ h p) (z p m) ∙ zero-mul F _)

  -- Places where x is zero may be left out.
  pub dot-filter : (test : A → Bool) (ps : List A) (x h : A → K) → All ps (λ p. test p ≡ false → x p ≡ 𝟘) → dot F (filter test ps) x h ≡ dot F ps x h
  dot-filter test ps x h z = sum-filter test ps _ (λ p m e. ap (λ s. s ⊗ h p) (z p m e) ∙ zero-mul F _)

-- A sum of sums.
pub sum-flat : (F : Field) {I A : Type 0} (g : I → List A) (l : List I) (f : A → F.K) → sum F (flat_map g l) f ≡ sum F l (λ i. sum F (g i) f)
unfolding flat_map
sum-flat F g [] f = simp sum-nil
sum-flat F g (i ∷ l) f = simp (sum-cons, sum-append, sum-flat F g l f)
