-- Laws: The right sides of a system written at positions.
use Rattle.std.specs.Prelude.{◌≡◌, List, length, get_or, set}
use Rattle.std.proofs.Math.Path.{refl}
use Rattle.std.proofs.Common.{sym, ap, ap₂, ◌∙◌, arith, get_or-set_same}
use Prim.Native.Nat.{ℕ, zero, suc, ◌≤◌, ◌<◌}
use Rattle.std.proofs.Math.Decide.{ℕ_discrete}
use Rattle.std.proofs.Math.ListN.{length-set}
use Rattle.std.proofs.Math.Seq.{get_or-set_other}
use Rattle.binary_field.specs.Xor.{◌⊕◌}
use Rattle.binary_field.specs.XorLaws.{⊕-zero-l, ⊕-zero-r, ⊕-assoc}
use Rattle.binary_field.specs.Sum.{sum_below}
use Rattle.binary_field.specs.SumLaws.{sum-none, sum-suc}
use Rattle.code.specs.Edition.{Edition, times, raised}
use Rattle.code.specs.Word.{local_sum}
use Rattle.code_engine.specs.Elimination.{entry}
use Rattle.code_engine.specs.Positions.{Inside}
use Rattle.code_engine.specs.ChangeLaws.{local-set}
use Rattle.code_engine.specs.Placed.{placed}

module _ (xs at : List ℕ) (M : List (List ℕ)) where
  pub placed-none : placed xs at M 0 ≡ xs
  unfolding placed
  placed-none = refl

  pub placed-suc : (t : ℕ) → placed xs at M (suc t) ≡ set (placed xs at M t) (get_or at t 0) (entry M t 4)
  unfolding placed
  placed-suc t = refl

  pub length-placed : (t : ℕ) → length (placed xs at M t) ≡ length xs
  unfolding placed
  length-placed zero = refl
  length-placed (suc t) = length-set (placed xs at M t) _ _ ∙ length-placed t

  -- at any other place nothing changes
  pub placed-other : (t p : ℕ) → ((i : ℕ) → i < t → p ≡ get_or at i 0 → ⊥) → get_or (placed xs at M t) p 0 ≡ get_or xs p 0
  unfolding placed
  placed-other zero p n = refl
  placed-other (suc t) p n =
      get_or-set_other (placed xs at M t) (get_or at t 0) p _ 0 (n t (omega arith)) ∙ placed-other t p (λ i l. n i (omega arith))

  module _ (t : ℕ) (ascending : (i j : ℕ) → i < j → j < t → get_or at i 0 < get_or at j 0) (inside : Inside (length xs) at t) where
    -- what stands at each position
    placed-to : (n : ℕ) → n ≤ t → (i : ℕ) → i < n → get_or (placed xs at M n) (get_or at i 0) 0 ≡ entry M i 4
    unfolding placed
    placed-to zero h i l = absurd (omega arith)
    placed-to (suc n) h i l = elim (ℕ_discrete i n) [
      | yes q ↦
          (rw q (get_or-set_same (placed xs at M n) (get_or at n 0) _ 0 (let b = inside n (omega arith) in let s = length-placed n in omega arith)))
      | no q ↦
          get_or-set_other (placed xs at M n) (get_or at n 0) (get_or at i 0) _ 0 (λ w. let b = ascending i n (omega arith) (omega arith) in omega arith)
          ∙ placed-to n (omega arith) i (omega arith)
    ]

    pub placed_at : (i : ℕ) → i < t → get_or (placed xs at M t) (get_or at i 0) 0 ≡ entry M i 4
    placed_at = placed-to t (omega arith)

    -- at places that hold 0, each symbol written adds its term to a local sum
    module _ (E : Edition) (blank : (i : ℕ) → i < t → get_or xs (get_or at i 0) 0 ≡ 0) (e : ℕ) where
      sum_to : (n : ℕ) → n ≤ t
          → local_sum E (length xs) (placed xs at M n) 0 e ≡ local_sum E (length xs) xs 0 e ⊕ sum_below n
          (λ i. times E (entry M i 4) (raised E (E.locator (get_or at i 0)) e))
      sum_to zero h = ap (λ l. local_sum E (length xs) l 0 e) placed-none ∙ sym (ap (λ s. local_sum E (length xs) xs 0 e ⊕ s) (sum-none _) ∙ ⊕-zero-r _)
      sum_to (suc n) h =
          let b = inside n (omega arith) in
          let s = length-placed n in
          let z : get_or (placed xs at M n) (get_or at n 0) 0 ≡ 0 =
          placed-other n (get_or at n 0) (λ i l w. let a = ascending i n l (omega arith) in omega arith) ∙ blank n (omega arith) in
          ap (λ l. local_sum E (length xs) l 0 e) (placed-suc n) ∙ local-set E (length xs) (placed xs at M n) (get_or at n 0) (entry M n 4) e b (omega arith)
          ∙ ap₂ ◌⊕◌ (sum_to n (omega arith)) (ap (λ a. times E a (raised E (E.locator (get_or at n 0)) e)) (ap (λ a. a ⊕ entry M n 4) z ∙ ⊕-zero-l _))
          ∙ ⊕-assoc _ _ _
          ∙ ap (λ a. local_sum E (length xs) xs 0 e ⊕ a) (sym (sum-suc n _))

      pub placed-sum : local_sum E (length xs) (placed xs at M t) 0 e
          ≡ local_sum E (length xs) xs 0 e ⊕ sum_below t (λ i. times E (entry M i 4) (raised E (E.locator (get_or at i 0)) e))
      placed-sum = sum_to t (omega arith)
