-- Laws: A field over a small field of q elements, the coefficients of the two equations across, and what these equations say of the lost
-- places of one group or two.
use Rattle.std.specs.Prelude.{◌≡◌, refl, List, [], ◌∷◌, ℕ, suc, ◌+◌, ◌-◌, ◌<◌, ◌≤◌, length}
use Rattle.std.proofs.Common.{sym, ◌∙◌, ap, ap₂, subst, arith}
use mathlib.Core.List.Memᴰ.{head as here}
use mathlib.Core.List.Memᴰ.{tail as there}
use Rattle.std.proofs.Math.Decide.{ℕ_discrete, dec_lt}
use Rattle.algebra.specs.Field.{Field, pow}
use Rattle.algebra.specs.FieldLaws.{ring, add-self, add-zero, mul-one, mul-zero, zero-mul, eq-of-add-zero, add-zero-of-eq, mul-cancel, pow-suc, one-pow}
use Rattle.algebra.specs.FieldLaws.{mul-pow, pow-add, pow-mul, pow-swap, pow-ne-zero}
use Rattle.algebra.specs.Lists.{All}
use Rattle.algebra.specs.Sum.{sum, dot}
use Rattle.algebra.specs.SumLaws.{sum-nil, sum-cons, sum-ext, sum-add, sum-scale}
use Rattle.algebra.specs.Vandermonde.{psum}
use Rattle.algebra.specs.VandermondeLaws.{vandermonde, ratio}
use Rattle.algebra.specs.Tower.{Tower, q, Small, coeff, across, across-q, Lost}

-- What holds below c and at c holds below c + 1.
up : {Q : ℕ → Type 0} (c : ℕ) → ((e : ℕ) → e < c → Q e) → Q c → (e : ℕ) → e < suc c → Q e
up {Q} c f z e l = elim (ℕ_discrete e c) [ yes h ↦ subst Q (sym h) z | no n ↦ f e (omega arith) ]

module _ (F : Field) (T : Tower F) where
  open F use {K, add as ◌⊕◌, mul as ◌⊗◌, 𝟘, 𝟙, one-ne-zero}
  open T use {r, g, frobenius, fermat, order, outside}

  infixl 65 ◌⊕◌
  infixl 70 ◌⊗◌
  small-zero : Small F T 𝟘
  small-zero = pow-suc F 𝟘 r ∙ zero-mul F _

  small-sum : {P : Type 0} (a : P → K) (ps : List P) → All ps (λ p. Small F T (a p)) → Small F T (sum F ps a)
  small-sum a [] h = rw (sum-nil F a) small-zero
  small-sum a (p ∷ ps) h = rw (sum-cons F p ps a) (frobenius _ _ ∙ ap₂ ◌⊕◌ (h p (here refl)) (small-sum a ps (λ s i. h s (there i))))

  small-pow : (s : K) (n : ℕ) → Small F T s → Small F T (pow F s n)
  small-pow s n h = pow-swap F s n (q F T) ∙ ap (λ t. pow F t n) h

  pub g-ne-zero : ¬ (g ≡ 𝟘)
  g-ne-zero z = outside (rw z small-zero)

  -- g·s and g^q·s differ for a nonzero s.
  conjugates : {s : K} → (g ⊕ pow F g (q F T)) ⊗ s ≡ 𝟘 → s ≡ 𝟘
  conjugates = mul-cancel F (λ z. outside (sym (eq-of-add-zero F z)))

  abbrev β : K → K
  β s = 𝟙 ⊕ g ⊗ s

  β-q : (s : K) → Small F T s → pow F (β s) (q F T) ≡ 𝟙 ⊕ pow F g (q F T) ⊗ s
  β-q s h = frobenius 𝟙 (g ⊗ s) ∙ ap₂ ◌⊕◌ (one-pow F (q F T)) (mul-pow F g s (q F T) ∙ ap (λ t. pow F g (q F T) ⊗ t) h)

  β-ne-zero : (s : K) → Small F T s → ¬ (β s ≡ 𝟘)
  β-ne-zero s h z =
      let e : (g ⊕ pow F g (q F T)) ⊗ s ≡ β s ⊕ (𝟙 ⊕ pow F g (q F T) ⊗ s) = simp ring in
      let s-zero : s ≡ 𝟘 = conjugates (e ∙ ap₂ ◌⊕◌ z (sym (β-q s h) ∙ ap (λ t. pow F t (q F T)) z ∙ small-zero) ∙ add-self F 𝟘) in
      one-ne-zero (sym (ap (λ t. 𝟙 ⊕ t) (ap (λ t. g ⊗ t) s-zero ∙ mul-zero F g) ∙ add-zero F 𝟙) ∙ z)

  -- The norm of g, whose powers below q − 1 are distinct.
  abbrev norm : K
  norm = pow F g (suc (q F T))

  norm-less : (i j : ℕ) → i < j → j < r → ¬ (pow F norm i ≡ pow F norm j)
  norm-less i j l m e =
      let w : i + (j - i) ≡ j = omega arith in
      let e₁ : pow F norm i ⊗ (𝟙 ⊕ pow F norm (j - i)) ≡ pow F norm i ⊕ pow F norm i ⊗ pow F norm (j - i) = simp ring in
      order (j - i) (omega arith) (omega arith)
      (pow-mul F g (suc (q F T)) (j - i) ∙ sym (eq-of-add-zero F (mul-cancel F (pow-ne-zero F i (pow-ne-zero F (suc (q F T)) g-ne-zero))
      (e₁ ∙ ap (λ t. pow F norm i ⊕ t) (sym (pow-add F norm i (j - i)) ∙ ap (pow F norm) w) ∙ add-zero-of-eq F e))))

  norm-apart : (i j : ℕ) → ¬ (i ≡ j) → i < r → j < r → ¬ (pow F norm i ≡ pow F norm j)
  norm-apart i j n l m e = elim (dec_lt i j) [ yes w ↦ norm-less i j w m e | no w ↦ norm-less j i (omega arith) l (sym e) ]

  raise : (i : ℕ) (b : K) → ¬ (b ≡ 𝟘) → pow F (pow F g i ⊗ pow F b r) (suc (q F T)) ≡ pow F norm i
  raise i b n = mul-pow F _ _ _ ∙ ap₂ ◌⊗◌ (pow-swap F g i (suc (q F T))) (sym (pow-mul F b r (suc (q F T))) ∙ fermat b n) ∙ mul-one F _

  -- g^i·b^(q − 1) and g^j·b'^(q − 1) differ for i ≠ j.
  classes-apart : (i j : ℕ) → ¬ (i ≡ j) → i < r → j < r → (b b' : K) → ¬ (b ≡ 𝟘) → ¬ (b' ≡ 𝟘)
      → ¬ (pow F g i ⊗ pow F b r ≡ pow F g j ⊗ pow F b' r)
  classes-apart i j n l m b b' nb nb' e = norm-apart i j n l m (sym (raise i b nb) ∙ ap (λ t. pow F t (suc (q F T))) e ∙ raise j b' nb')

  module _ {P : Type 0} (a : P → K) (c : ℕ) where
    split : (ps : List P) (x : P → K) (k : K)
        → dot F ps x (λ p. pow F (a p) c ⊕ k ⊗ pow F (a p) (suc c)) ≡ psum F a ps x c ⊕ k ⊗ psum F a ps x (suc c)
    split ps x k =
        sum-ext F ps _ (λ p. x p ⊗ pow F (a p) c ⊕ k ⊗ (x p ⊗ pow F (a p) (suc c))) (λ p _. simp ring)
        ∙ sum-add F ps _ _ ∙ ap (λ s. psum F a ps x c ⊕ s) (sum-scale F ps k _)

    coeff-q : (p : P) → Small F T (a p) → pow F (coeff F T a c p) (q F T) ≡ pow F (a p) c ⊕ pow F g (q F T) ⊗ pow F (a p) (suc c)
    coeff-q p h = frobenius _ _ ∙ ap₂ ◌⊕◌ (small-pow (a p) c h) (mul-pow F g _ (q F T) ∙ ap (λ t. pow F g (q F T) ⊗ t) (small-pow (a p) (suc c) h))

    ratio-at : (ps : List P) (x : P → K) → length ps ≡ suc c → ((e : ℕ) → e < c → psum F a ps x e ≡ 𝟘)
        → psum F a ps x (suc c) ≡ sum F ps a ⊗ psum F a ps x c
    ratio-at [] x l z = absurd (omega arith)
    ratio-at (p ∷ ps) x l z =
        let w : length ps ≡ c = omega arith in
        subst (λ n. psum F a (p ∷ ps) x (suc n) ≡ sum F (p ∷ ps) a ⊗ psum F a (p ∷ ps) x n) w
        (ratio F a p ps x (λ e m. z e (omega arith)))

    module _ (ps : List P) (x : P → K) (G : Lost F T a c ps x) where
      split-q : across-q F T a c ps x ≡ psum F a ps x c ⊕ pow F g (q F T) ⊗ psum F a ps x (suc c)
      split-q = sum-ext F ps _ _ (λ p i. ap (λ t. x p ⊗ t) (coeff-q p (G.small p i))) ∙ split ps x (pow F g (q F T))

      -- At most c lost.
      pub excess-0 : length ps ≤ c → All ps (λ p. x p ≡ 𝟘)
      excess-0 l = vandermonde F a ps x G.distinct (λ e m. G.locals e (omega arith))

      -- c + 2 lost.
      pub excess-2 : length ps ≡ suc (suc c) → across F T a c ps x ≡ 𝟘 → across-q F T a c ps x ≡ 𝟘 → All ps (λ p. x p ≡ 𝟘)
      excess-2 l e₁ e₂ = vandermonde F a ps x G.distinct (λ e m. up (suc c) (up c G.locals u-zero) v-zero e (rw (← l) m))
        where
          u : K
          u = psum F a ps x c

          v : K
          v = psum F a ps x (suc c)

          f : u ⊕ g ⊗ v ≡ 𝟘
          f = sym (split ps x g) ∙ e₁

          v-zero : v ≡ 𝟘
          v-zero =
              let w : (g ⊕ pow F g (q F T)) ⊗ v ≡ (u ⊕ g ⊗ v) ⊕ (u ⊕ pow F g (q F T) ⊗ v) = simp ring in
              conjugates (w ∙ ap₂ ◌⊕◌ f (sym split-q ∙ e₂) ∙ add-self F 𝟘)

          u-zero : u ≡ 𝟘
          u-zero = eq-of-add-zero F f ∙ ap (λ t. g ⊗ t) v-zero ∙ mul-zero F g

      module _ (l : length ps ≡ suc c) where
        -- β of the sum of the locators
        abbrev ρ : K
        ρ = β (sum F ps a)

        ρ-ne-zero : ¬ (ρ ≡ 𝟘)
        ρ-ne-zero = β-ne-zero _ (small-sum a ps G.small)

        factor : (k : K) → psum F a ps x c ⊕ k ⊗ psum F a ps x (suc c) ≡ (𝟙 ⊕ k ⊗ sum F ps a) ⊗ psum F a ps x c
        factor k = ap (λ t. psum F a ps x c ⊕ k ⊗ t) (ratio-at ps x l G.locals) ∙ simp ring

        across-factor : across F T a c ps x ≡ ρ ⊗ psum F a ps x c
        across-factor = split ps x g ∙ factor g

        across-q-factor : across-q F T a c ps x ≡ pow F ρ r ⊗ across F T a c ps x
        across-q-factor =
            let w : (ρ ⊗ pow F ρ r) ⊗ psum F a ps x c ≡ pow F ρ r ⊗ (ρ ⊗ psum F a ps x c) = simp ring in
            split-q ∙ factor (pow F g (q F T))
            ∙ ap (λ t. t ⊗ psum F a ps x c) (sym (β-q _ (small-sum a ps G.small)) ∙ pow-suc F ρ r)
            ∙ w ∙ ap (λ t. pow F ρ r ⊗ t) (sym across-factor)

        -- c + 1 lost, in one group.
        pub excess-1 : across F T a c ps x ≡ 𝟘 → All ps (λ p. x p ≡ 𝟘)
        excess-1 e = vandermonde F a ps x G.distinct (λ e' m. up c G.locals (mul-cancel F ρ-ne-zero (sym across-factor ∙ e)) e' (rw (← l) m))

    -- c + 1 lost in each of two groups.
    pub excess-1-1 : (i j : ℕ) → ¬ (i ≡ j) → i < r → j < r → (ps qs : List P) (x : P → K) → Lost F T a c ps x → Lost F T a c qs x
        → length ps ≡ suc c → length qs ≡ suc c → across F T a c ps x ⊕ across F T a c qs x ≡ 𝟘
        → pow F g i ⊗ across-q F T a c ps x ⊕ pow F g j ⊗ across-q F T a c qs x ≡ 𝟘 → All ps (λ p. x p ≡ 𝟘)
    excess-1-1 i j n li lj ps qs x G H l k e₁ e₂ =
        excess-1 ps x G l
        (mul-cancel F differ (expand _ _ _ _ _ ∙ ap₂ (λ s t. pow F g i ⊗ s ⊕ pow F g j ⊗ t) left right ∙ e₂))
      where
        u : K
        u = pow F (ρ ps x G l) r

        v : K
        v = pow F (ρ qs x H k) r

        differ : ¬ (pow F g i ⊗ u ⊕ pow F g j ⊗ v ≡ 𝟘)
        differ z = classes-apart i j n li lj _ _ (ρ-ne-zero ps x G l) (ρ-ne-zero qs x H k) (eq-of-add-zero F z)

        left : u ⊗ across F T a c ps x ≡ across-q F T a c ps x
        left = sym (across-q-factor ps x G l)

        right : v ⊗ across F T a c ps x ≡ across-q F T a c qs x
        right = ap (λ t. v ⊗ t) (eq-of-add-zero F e₁) ∙ sym (across-q-factor qs x H k)

        expand : (γ δ u v t : K) → (γ ⊗ u ⊕ δ ⊗ v) ⊗ t ≡ γ ⊗ (u ⊗ t) ⊕ δ ⊗ (v ⊗ t)
        expand γ δ u v t = simp ring
