-- Laws: Groups whose excess is at most two in all: what is shown of one group and of two holds of all of them.
use Rattle.std.specs.Prelude.{◌≡◌, refl, Bool, true, false, List, [], ◌∷◌, ℕ, zero, suc, ◌<◌, ◌≤◌}
use Rattle.std.proofs.Common.{sym, ◌∙◌, true≢false, arith}
use mathlib.Core.List.Memᴰ.{head as here}
use mathlib.Core.List.Memᴰ.{tail as there}
use Rattle.std.proofs.Math.Decide.{ℕ_discrete}
use Rattle.algebra.specs.Field.{Field}
use Rattle.algebra.specs.FieldLaws.{add_comm, add-zero}
use Rattle.algebra.specs.Lists.{◌∈◌, All, Distinct, filter, total}
use Rattle.algebra.specs.ListsLaws.{all_cons, filter-in, filter-all, filter-distinct, total-filter}
use Rattle.algebra.specs.Sum.{sum}
use Rattle.algebra.specs.SumLaws.{sum-nil, sum-cons, sum-filter}
use Rattle.algebra.specs.Excess.{Cases}

abbrev positive : ℕ → Bool
positive zero = false
positive (suc n) = true

positive-true : (n : ℕ) → positive n ≡ true → 0 < n
positive-true zero e = absurd (true≢false (sym e))
positive-true (suc n) e = omega arith

positive-false : (n : ℕ) → positive n ≡ false → n ≡ 0
positive-false zero e = refl
positive-false (suc n) e = absurd (true≢false e)

module _ (F : Field) {I : Type 0} (Z : I → Type 0) (exc : I → ℕ) (A B : I → F.K) (l : List I) (C : Cases F Z exc A B l) where
  open F use {K, add as ◌⊕◌, 𝟘}

  infixl 65 ◌⊕◌
  one : {i : I} (f : I → K) → sum F (i ∷ []) f ≡ 𝟘 → f i ≡ 𝟘
  one f e = simp (sum-cons, sum-nil, add-zero) at e

  two : {i j : I} (f : I → K) → sum F (i ∷ j ∷ []) f ≡ 𝟘 → f i ⊕ f j ≡ 𝟘
  two f e = simp (sum-cons, sum-nil, add-zero) at e

  -- At most two groups have excess.
  few : (s : List I) → All s (λ i. (i ∈ l) × (positive (exc i) ≡ true)) → Distinct (λ i. i) s → total exc s ≤ 2
      → sum F s A ≡ 𝟘 → sum F s B ≡ 𝟘 → All s Z
  few [] w d t e_a e_b = λ i h. elim h [ ]
  few (i ∷ []) w d t e_a e_b =
      let u = w i (here refl) in
      let k : 0 < exc i = positive-true (exc i) u.1 in
      all_cons {Q = Z} (elim (ℕ_discrete (exc i) 1) [
        | yes e ↦ C.case-1 i u.0 e (one A e_a)
        | no n ↦ C.case-2 i u.0 (omega arith) (one A e_a) (one B e_b)
      ]) (λ j h. elim h [ ])
  few (i ∷ j ∷ []) w d t e_a e_b =
      let u = w i (here refl) in
      let v = w j (there (here refl)) in
      let k : 0 < exc i = positive-true (exc i) u.1 in
      let k' : 0 < exc j = positive-true (exc j) v.1 in
      let n : ¬ (j ≡ i) = d.0 j (here refl) in
      all_cons {Q = Z} (C.case-1-1 i j u.0 v.0 (λ e. n (sym e)) (omega arith) (omega arith) (two A e_a) (two B e_b))
      (all_cons {Q = Z} (C.case-1-1 j i v.0 u.0 n (omega arith) (omega arith) (add_comm F _ _ ∙ two A e_a) (add_comm F _ _ ∙ two B e_b))
      (λ j h. elim h [ ]))
  few (i ∷ j ∷ k ∷ s) w d t e_a e_b =
      absurd (omega (
        arith,
        positive-true (exc i) (w i (here refl)).1,
        positive-true (exc j) (w j (there (here refl))).1,
        positive-true (exc k) (w k (there (there (here refl)))).1,
      ))

  -- With the two sums across zero and the excess at most two, nothing is left in any group.
  pub all-zero : Distinct (λ i. i) l → total exc l ≤ 2 → sum F l A ≡ 𝟘 → sum F l B ≡ 𝟘 → All l Z
  all-zero d t e_a e_b =
      filter-all busy l
      (few (filter busy l) (filter-in busy l) (filter-distinct busy (λ i. i) l d) (omega (arith, total-filter busy exc l))
      (sum-filter F busy l A (λ i h e. C.zero-A i h (idle i h e)) ∙ e_a) (sum-filter F busy l B (λ i h e. C.zero-B i h (idle i h e)) ∙ e_b))
      idle
    where
      busy : I → Bool
      busy i = positive (exc i)

      idle : All l (λ i. busy i ≡ false → Z i)
      idle i h e = C.case-0 i h (positive-false (exc i) e)
