-- Laws: The sums Σ x·a^e over places with locators a: what v of them that are zero say of v places, and of v + 1.
use Rattle.std.specs.Prelude.{◌≡◌, List, [], ◌∷◌, ℕ, suc, ◌<◌, length}
use Rattle.std.proofs.Common.{sym, ◌∙◌, ap, ap₂, arith}
use Rattle.algebra.specs.Field.{Field, pow}
use Rattle.algebra.specs.FieldLaws.{ring, mul_comm, eq-of-add-zero, mul-cancel, pow-zero, pow-one, pow-suc}
use Rattle.algebra.specs.Lists.{All, Distinct}
use Rattle.algebra.specs.ListsLaws.{all_cons}
use Rattle.algebra.specs.Sum.{sum}
use Rattle.algebra.specs.SumLaws.{sum-nil, sum-cons, sum-ext, sum-add, sum-scale, dot-zero}
use Rattle.algebra.specs.Vandermonde.{psum}

module _ (F : Field) {P : Type 0} (a : P → F.K) where
  open F use {K, add as ◌⊕◌, mul as ◌⊗◌, 𝟘}

  infixl 65 ◌⊕◌
  infixl 70 ◌⊗◌
  -- With x·(a + a_p) for x the place p drops out of the sums.
  deflate : (p : P) (qs : List P) (x : P → K) (e : ℕ) → psum F a qs (λ q. x q ⊗ (a q ⊕ a p)) e ≡ psum F a (p ∷ qs) x (suc e) ⊕ a p ⊗ psum F a (p ∷ qs) x e
  deflate p qs x e =
      sum-ext F qs _ (λ q. x q ⊗ pow F (a q) (suc e) ⊕ a p ⊗ (x q ⊗ pow F (a q) e)) (λ q _. simp (pow-suc, ring))
      ∙ sum-add F qs _ _ ∙ ap (λ s. psum F a qs x (suc e) ⊕ s) (sum-scale F qs (a p) _) ∙ simp (sum-cons, pow-suc, ring)

  deflate-zero : (p : P) (qs : List P) (x : P → K) (e : ℕ) → psum F a (p ∷ qs) x (suc e) ≡ 𝟘 → psum F a (p ∷ qs) x e ≡ 𝟘
      → psum F a qs (λ q. x q ⊗ (a q ⊕ a p)) e ≡ 𝟘
  deflate-zero p qs x e h₁ h₀ = deflate p qs x e ∙ ap₂ (λ s t. s ⊕ a p ⊗ t) h₁ h₀ ∙ simp ring

  -- Any v columns of v rows with distinct locators are independent.
  pub vandermonde : (ps : List P) (x : P → K) → Distinct a ps → ((e : ℕ) → e < length ps → psum F a ps x e ≡ 𝟘) → All ps (λ p. x p ≡ 𝟘)
  vandermonde [] x d h = λ p m. elim m [ ]
  vandermonde (p ∷ qs) x d h =
      let rest : All qs (λ q. x q ≡ 𝟘) = λ q i.
      mul-cancel F (λ z. d.0 q i (eq-of-add-zero F z))
      (mul_comm F _ _ ∙ vandermonde qs (λ q. x q ⊗ (a q ⊕ a p)) d.1
      (λ e l. deflate-zero p qs x e (h (suc e) (omega arith)) (h e (omega arith))) q i) in
      let first : psum F a (p ∷ qs) x 0 ≡ x p = sum-cons F p qs _ ∙ ap₂ (λ s t. x p ⊗ s ⊕ t) (pow-zero F (a p)) (dot-zero F qs x _ rest) ∙ simp ring in
      all_cons {Q = λ q. x q ≡ 𝟘} (sym first ∙ h 0 (omega arith)) rest

  ratio-step : (t c x₀ x₁ x₂ : K) → x₂ ⊕ c ⊗ x₁ ≡ t ⊗ (x₁ ⊕ c ⊗ x₀) → x₀ ≡ 𝟘 → x₂ ≡ (c ⊕ t) ⊗ x₁
  ratio-step t c x₀ x₁ x₂ h z =
      let e : x₂ ≡ (x₂ ⊕ c ⊗ x₁) ⊕ c ⊗ x₁ = simp ring in
      e ∙ ap (λ s. s ⊕ c ⊗ x₁) h ∙ ap (λ s. t ⊗ (x₁ ⊕ c ⊗ s) ⊕ c ⊗ x₁) z ∙ simp ring

  -- With one place more than sums that are zero, the next two sums are in the ratio of the sum of the locators.
  pub ratio : (p : P) (qs : List P) (x : P → K) → ((e : ℕ) → e < length qs → psum F a (p ∷ qs) x e ≡ 𝟘)
      → psum F a (p ∷ qs) x (suc (length qs)) ≡ sum F (p ∷ qs) a ⊗ psum F a (p ∷ qs) x (length qs)
  ratio p [] x h = simp (sum-cons, sum-nil, pow-one, pow-zero, ring)
  ratio p (q ∷ qs) x h =
      rw (sum-cons F p (q ∷ qs) a)
      (ratio-step (sum F (q ∷ qs) a) (a p) (psum F a (p ∷ q ∷ qs) x (length qs)) (psum F a (p ∷ q ∷ qs) x (suc (length qs))) _
      (sym (deflate p (q ∷ qs) x (suc (length qs)))
      ∙ ratio q qs (λ q. x q ⊗ (a q ⊕ a p)) (λ e l. deflate-zero p (q ∷ qs) x e (h (suc e) (omega arith)) (h e (omega arith)))
      ∙ ap (λ s. sum F (q ∷ qs) a ⊗ s) (deflate p (q ∷ qs) x (length qs)))
      (h (length qs) (omega arith)))
