-- Laws: What filling a group does.
use Rattle.std.specs.Prelude.{◌≡◌, refl, true, false, List, ℕ, zero, suc, ◌-◌, ◌≤◌, ◌<◌, length, get_or, replicate}
use Rattle.std.proofs.Common.{sym, ap, ap₂, ◌∙◌, true≢false, arith}
use Rattle.std.proofs.Math.Decide.{dec_lt}
use Rattle.binary_field.specs.Xor.{◌⊕◌}
use Rattle.binary_field.specs.XorLaws.{⊕-self}
use Rattle.binary_field.specs.ProductLaws.{product-comm}
use Rattle.binary_field.specs.Sum.{sum_below}
use Rattle.binary_field.specs.SumLaws.{sum-ext}
use Rattle.code.specs.Edition.{Edition, Sound, times, raised}
use Rattle.code.specs.Word.{local_sum}
use Rattle.code.specs.Marks.{lost, lost_in}
use Rattle.code_engine.specs.Elimination.{entry, eliminated}
use Rattle.code_engine.specs.EliminationSteps.{System}
use Rattle.code_engine.specs.SolutionLaws.{solution}
use Rattle.code_engine.specs.Positions.{Positions}
use Rattle.code_engine.specs.Placed.{placed}
use Rattle.code_engine.specs.PlacedLaws.{length-placed, placed-other, placed_at, placed-sum}
use Rattle.code_engine.specs.EquationsLaws.{EquationsIn, independent}
use Rattle.code_engine.specs.Filled.{FilledIn}

-- ---- the lost places filled
-- more than four are lost
pub unchanged : (E : Edition) (marks xs : List ℕ) (t : ℕ) → t ≡ lost_in (length marks) marks 0 → 4 < t → FilledIn E marks xs xs
unchanged E marks xs t e h = record {
  size = refl;
  present = λ _ _. refl;
  zero = λ _ s l. let q = ap (λ w. lost_in w marks 0) s in absurd (omega arith);
  other = λ _. refl;
}

-- none is lost
pub no-erasures : (E : Edition) (marks xs : List ℕ) (t : ℕ) → t ≡ lost_in (length marks) marks 0 → t ≡ 0 → FilledIn E marks xs xs
no-erasures E marks xs t e h = record {
  size = refl;
  present = λ _ _. refl;
  zero = λ _ s _ i l. let q = ap (λ w. lost_in w marks 0) s in absurd (omega arith);
  other = λ _. refl;
}

pub zeros-at : (n k i j : ℕ) → entry (replicate n (replicate k 0)) i j ≡ 0
zeros-at zero k i j = refl
zeros-at (suc n) k zero j = at_zero k j
  where
    at_zero : (k j : ℕ) → get_or {A = ℕ} (replicate k 0) j 0 ≡ 0
    at_zero zero j = refl
    at_zero (suc k) zero = refl
    at_zero (suc k) (suc j) = at_zero k j
zeros-at (suc n) k (suc i) j = zeros-at n k i j

-- xs with zeros, and then the solution, in the lost places
module _ (marks xs ys zs at : List ℕ) (Z N : List (List ℕ)) (t : ℕ) (P : Positions marks (length xs) at t)
    (hy : ys ≡ placed xs at Z t) (hz : zs ≡ placed ys at N t) where
  pub same_size : length ys ≡ length xs
  same_size = ap length hy ∙ length-placed xs at Z t

  pub kept : (p : ℕ) → lost marks p ≡ false → get_or zs p 0 ≡ get_or xs p 0
  kept p e =
      ap (λ l. get_or l p 0) hz ∙ placed-other ys at N t p other ∙ ap (λ l. get_or l p 0) hy ∙ placed-other xs at Z t p other
    where
      other : (i : ℕ) → i < t → p ≡ get_or at i 0 → ⊥
      other i l q = true≢false (sym (P.erased i l) ∙ ap (lost marks) (sym q) ∙ e)

  -- symbols N that have the sums of the rest
  module _ (E : Edition) (blank : (i : ℕ) → entry Z i 4 ≡ 0) (fits : length xs ≤ E.small)
      (solved : (e : ℕ) → e < t → sum_below t (λ i. times E (entry N i 4) (raised E (E.locator (get_or at i 0)) e)) ≡ local_sum E (length ys) ys 0 e) where
    sums-zero : (e : ℕ) → e < t → local_sum E (length ys) zs 0 e ≡ 0
    sums-zero e h =
        ap (λ l. local_sum E (length ys) l 0 e) hz
        ∙ placed-sum ys at N t P.ascending (λ i l. rw same_size (P.inside i l)) E
        (λ i l. ap (λ l. get_or l (get_or at i 0) 0) hy ∙ placed_at xs at Z t P.ascending P.inside i l ∙ blank i) e
        ∙ ap (λ s. local_sum E (length ys) ys 0 e ⊕ s) (solved e h) ∙ ⊕-self _

    pub filled-by : length marks ≡ length xs → t ≤ 4 → t ≡ lost_in (length xs) marks 0 → FilledIn E marks xs zs
    filled-by same few ht = record {
      size = ap length hz ∙ length-placed ys at N t ∙ same_size;
      present = kept;
      zero = λ _ _ _ e h. rw same_size at (sums-zero e (rw ht h));
      other = λ n. absurd (n fits same (omega arith));
    }

  pub apart : (i j : ℕ) → i < t → j < t → ¬ (i ≡ j) → ¬ (get_or at i 0 ≡ get_or at j 0)
  apart i j hi hj n q = elim (dec_lt i j) [
    | yes l ↦ (let a = P.ascending i j l hj in omega arith)
    | no l ↦ (let a = P.ascending j i (omega arith) hi in omega arith)
  ]

  module _ (E : Edition) (T : Sound E) (blank : (i : ℕ) → entry Z i 4 ≡ 0) (fits : length xs ≤ E.small) (M : List (List ℕ)) (S : System E.bits M t)
      (Q : EquationsIn E ys at t M)
      (h_n : N ≡ eliminated E.bits E.poly M t) where
    solved : (e : ℕ) → e < t → sum_below t (λ i. times E (entry N i 4) (raised E (E.locator (get_or at i 0)) e)) ≡ local_sum E (length ys) ys 0 e
    solved e h =
        sum-ext t _ _ (λ i l. product-comm E.bits E.poly _ _ ∙ ap₂ (times E) (sym ((Q e h).left i l)) (ap (λ A. entry A i 4) h_n))
        ∙ (solution E.bits E.poly T.facts.pos T.facts.values T.facts.tested M t S
        (independent E T t (λ i. get_or at i 0) (λ i l. let b = P.inside i l in omega arith) apart M (λ e i he hi. (Q e he).left i hi)) 4).solves e h
        ∙ (Q e h).right

    -- the solution of the equations
    pub filled : length marks ≡ length xs → t ≤ 4 → t ≡ lost_in (length xs) marks 0 → FilledIn E marks xs zs
    filled same few ht = filled-by E blank fits solved same few ht
