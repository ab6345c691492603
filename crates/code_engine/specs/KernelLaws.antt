-- Laws: The kernel of a matrix, and that a column without a pivot gives an element of it other than 0.
use Rattle.std.specs.Prelude.{◌≡◌, refl, cond, List, ℕ, ◌^◌, ◌≤◌, ◌<◌, ltb}
use Rattle.std.proofs.Common.{sym, ap, ap₂, ◌∙◌, mod-eq_of_lt, arith, lt-ltb, le-ltb, pow_pos}
use Rattle.std.proofs.Math.Decide.{ℕ_discrete, dec_lt}
use Rattle.std.proofs.Math.Pow.{pow-lt}
use Rattle.binary_field.specs.Xor.{◌⊕◌}
use Rattle.binary_field.specs.XorLaws.{⊕-zero-l, ⊕-lt, ⊕-self}
use Rattle.binary_field.specs.Product.{product}
use Rattle.binary_field.specs.ProductLaws.{product-add, product-zero, zero-product, product-one, one_product}
use Rattle.binary_field.specs.Sum.{sum_below}
use Rattle.binary_field.specs.SumLaws.{sum-ext, sum-add, sum-single}
use Rattle.code_engine.specs.Elimination.{entry}
use Rattle.code_engine.specs.EliminationSteps.{System, identity, Reduced}
use Rattle.code_engine.specs.EliminationStepsLaws.{identity-same, identity-other}
use Rattle.code_engine.specs.Kernel.{Kernel, TrivialKernel}

-- the entries of column j in the rows above j
above : List (List ℕ) → ℕ → ℕ → ℕ
above M j i = cond (ltb i j) (entry M i j) 0

above-lt : (M : List (List ℕ)) (j i : ℕ) → i < j → above M j i ≡ entry M i j
unfolding above
above-lt M j i h = rw (lt-ltb i j h)

above-le : (M : List (List ℕ)) (j i : ℕ) → j ≤ i → above M j i ≡ 0
unfolding above
above-le M j i h = rw (le-ltb i j h)

module _ (k m : ℕ) (pos : 0 < k) where
  one-lt : 1 < 2 ^ k
  one-lt = pow-lt pos

  -- a row of the identity times x
  pub identity-times : (t e : ℕ) (x : ℕ → ℕ) → e < t → x e < 2 ^ k → sum_below t (λ i. product k m (identity e i) (x i)) ≡ x e
  identity-times t e x h l =
      sum-single t e _ h (λ i _ w. ap (λ a. product k m a (x i)) (identity-other e i (λ v. w (sym v))) ∙ zero-product k m (x i))
      ∙ ap (λ a. product k m a (x e)) (identity-same e e refl) ∙ one_product k m pos (x e) ∙ mod-eq_of_lt l

  module _ (M : List (List ℕ)) (t j : ℕ) (S : System k M t) (hj : j < t) (r : Reduced M j t) where
    identity-lt : (i : ℕ) → identity j i < 2 ^ k
    identity-lt i = elim (ℕ_discrete j i) [
      | yes q ↦ (rw (identity-same j i q) one-lt)
      | no q ↦ (rw (identity-other j i q) (pow_pos k))
    ]

    above-small : (i : ℕ) → above M j i < 2 ^ k
    above-small i = elim (dec_lt i j) [
      | yes h ↦ (rw (above-lt M j i h) (S.small i (omega arith) j))
      | no h ↦ (rw (above-le M j i (omega arith)) (pow_pos k))
    ]

    -- M times the unit vector j is column j
    column-times : (e : ℕ) → e < t → sum_below t (λ i. product k m (entry M e i) (identity j i)) ≡ entry M e j
    column-times e h =
        sum-single t j _ hj (λ i _ w. ap (product k m (entry M e i)) (identity-other j i (λ v. w (sym v))) ∙ product-zero k m (entry M e i))
        ∙ ap (product k m (entry M e j)) (identity-same j j refl) ∙ product-one k m pos (entry M e j) (S.small e h j)

    -- M times what stands above the row j in it is that
    above-times : (e : ℕ) → e < t → sum_below t (λ i. product k m (entry M e i) (above M j i)) ≡ above M j e
    above-times e h = sum-single t e _ h rest ∙ here
      where
        rest : (i : ℕ) → i < t → (i ≡ e → ⊥) → product k m (entry M e i) (above M j i) ≡ 0
        rest i l w = elim (dec_lt i j) [
          | yes b ↦ (rw (r e h i b, identity-other e i (λ v. w (sym v))) (zero-product k m _))
          | no b ↦ (rw (above-le M j i (omega arith)) (product-zero k m _))
        ]

        here : product k m (entry M e e) (above M j e) ≡ above M j e
        here = elim (dec_lt e j) [
          | yes b ↦ (rw (r e h e b, identity-same e e refl) (one_product k m pos (above M j e) ∙ mod-eq_of_lt (above-small e)))
          | no b ↦ (rw (above-le M j e (omega arith)) (product-zero k m _))
        ]

    pub has-pivot : TrivialKernel k m M t → ((e : ℕ) → j ≤ e → e < t → entry M e j ≡ 0) → ⊥
    has-pivot trivial zs =
        let z : above M j j ⊕ identity j j ≡ 0 = trivial (λ i. above M j i ⊕ identity j i) (λ i. ⊕-lt k _ _ (above-small i) (identity-lt i)) in-kernel j hj in
        let one : above M j j ⊕ identity j j ≡ 1 = ap₂ ◌⊕◌ (above-le M j j (omega arith)) (identity-same j j refl) ∙ ⊕-zero-l 1 in
        omega arith
      where
        cancel : (e : ℕ) → e < t → above M j e ⊕ entry M e j ≡ 0
        cancel e h = elim (dec_lt e j) [
          | yes b ↦ (rw (above-lt M j e b) (⊕-self (entry M e j)))
          | no b ↦ (rw (above-le M j e (omega arith), zs e (omega arith) h) (⊕-self 0))
        ]

        in-kernel : Kernel k m M t (λ i. above M j i ⊕ identity j i)
        in-kernel e h =
            sum-ext t _ _ (λ i _. product-add k m (entry M e i) (above M j i) (identity j i))
            ∙ sum-add t (λ i. product k m (entry M e i) (above M j i)) (λ i. product k m (entry M e i) (identity j i))
            ∙ ap₂ ◌⊕◌ (above-times e h) (column-times e h) ∙ cancel e h
