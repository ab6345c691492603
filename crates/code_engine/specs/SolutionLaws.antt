-- Laws: Elimination keeps the solutions of a system of t equations in t unknowns, with the right side in column r; and where the
-- coefficients have a trivial kernel, column r of what is left is the only solution.
use Rattle.std.specs.Prelude.{◌≡◌, List, ◌↔◌, T, get_or}
use Rattle.std.proofs.Common.{sym, ap, ◌∙◌, arith}
use mathlib.Core.Logic.Iff
use Prim.Native.Nat.{ℕ, zero, suc, ◌^◌, ◌≤◌, ◌<◌}
use Rattle.binary_field.specs.Xor.{◌⊕◌}
use Rattle.binary_field.specs.XorLaws.{⊕-self, ⊕-cancel}
use Rattle.binary_field.specs.Product.{product}
use Rattle.binary_field.specs.Sum.{sum_below}
use Rattle.binary_field.specs.SumLaws.{sum-ext}
use Rattle.binary_field.specs.Inverse.{is_field}
use Rattle.code_engine.specs.Elimination.{entry, eliminated_to, eliminated}
use Rattle.code_engine.specs.EliminationRows.{Linear}
use Rattle.code_engine.specs.EliminationRowsLaws.{linear-at, linear-sum, linear-dot}
use Rattle.code_engine.specs.EliminationSteps.{Every, System, Reduced}
use Rattle.code_engine.specs.EliminationStepsLaws.{column-system, column-zero, column-reduced}
use Rattle.code_engine.specs.Kernel.{TrivialKernel}
use Rattle.code_engine.specs.KernelLaws.{identity-times, has-pivot}
use Rattle.code_engine.specs.Solution.{Solves, OnlySolution}

module _ (k m : ℕ) (pos : 0 < k) (ts : List ℕ) (ok : T (is_field k m ts)) (M : List (List ℕ)) (t : ℕ) (S : System k M t) where
  to-system : (n : ℕ) → n ≤ t → System k (eliminated_to k m M t n) t
  unfolding eliminated_to
  to-system zero h = S
  to-system (suc n) h = column-system k m pos ts ok (eliminated_to k m M t n) t n (to-system n (omega arith)) (omega arith)

  to-zero : (L : List ℕ → ℕ) → Linear k m L → (n : ℕ) → n ≤ t → Every (λ xs. L xs ≡ 0) M t ↔ Every (λ xs. L xs ≡ 0) (eliminated_to k m M t n) t
  unfolding eliminated_to
  to-zero L l zero h = Iff.rfl
  to-zero L l (suc n) h =
      Iff.trans (to-zero L l n (omega arith)) (column-zero k m pos ts ok (eliminated_to k m M t n) t n (to-system n (omega arith)) (omega arith) L l)

  to-reduced : TrivialKernel k m M t → (n : ℕ) → n ≤ t → Reduced (eliminated_to k m M t n) n t
  unfolding eliminated_to
  to-reduced trivial zero h = λ e l c b. absurd (omega arith)
  to-reduced trivial (suc n) h =
      column-reduced k m pos ts ok (eliminated_to k m M t n) t n (to-system n (omega arith)) (omega arith)
      (has-pivot k m pos (eliminated_to k m M t n) t n (to-system n (omega arith)) (omega arith) (to-reduced trivial n (omega arith))
      (λ x small kernel. trivial x small ((to-zero _ (linear-dot k m t x) n (omega arith)).1 kernel)))
      (to-reduced trivial n (omega arith))

  pub eliminated-system : System k (eliminated k m M t) t
  unfolding eliminated
  eliminated-system = to-system t (omega arith)

  -- an equation holds where the sum of its two sides is 0
  solves-zero : (A : List (List ℕ)) (r : ℕ) (x : ℕ → ℕ)
      → Solves k m A t r x ↔ Every (λ xs. sum_below t (λ i. product k m (get_or xs i 0) (x i)) ⊕ get_or xs r 0 ≡ 0) A t
  solves-zero A r x = (λ s e h. ap (λ a. a ⊕ entry A e r) (s e h) ∙ ⊕-self (entry A e r), λ s e h. ⊕-cancel (s e h))

  pub same-solutions : (r : ℕ) (x : ℕ → ℕ) → Solves k m M t r x ↔ Solves k m (eliminated k m M t) t r x
  unfolding eliminated
  same-solutions r x =
      Iff.trans (solves-zero M r x)
      (Iff.trans (to-zero _ (linear-sum k m _ _ (linear-dot k m t x) (linear-at k m r)) t (omega arith)) (Iff.symm (solves-zero (eliminated k m M t) r x)))

  module _ (trivial : TrivialKernel k m M t) where
    pub reduced : Reduced (eliminated k m M t) t t
    unfolding eliminated
    reduced = to-reduced trivial t (omega arith)

    -- the rows of the identity times x are x
    reduced-times : (x : ℕ → ℕ) (e : ℕ) → e < t → x e < 2 ^ k → sum_below t (λ i. product k m (entry (eliminated k m M t) e i) (x i)) ≡ x e
    reduced-times x e h l = sum-ext t _ _ (λ i b. ap (λ a. product k m a (x i)) (reduced e h i b)) ∙ identity-times k m pos t e x h l

    pub solution : (r : ℕ) → OnlySolution k m M t r (λ i. entry (eliminated k m M t) i r)
    solution r = record { solves = (same-solutions r _).1 (λ e h. reduced-times _ e h (small e h)); small = small; only = only }
      where
        small : (i : ℕ) → i < t → entry (eliminated k m M t) i r < 2 ^ k
        small i h = eliminated-system.small i h r

        only : (y : ℕ → ℕ) → ((i : ℕ) → i < t → y i < 2 ^ k) → Solves k m M t r y → (i : ℕ) → i < t → y i ≡ entry (eliminated k m M t) i r
        only y l s i h = sym (reduced-times y i h (l i h)) ∙ (same-solutions r y).0 s i h
