-- The steps of the loops, the syndromes as inner products, and what the solution of the equations does.
use mathlib.Core.Path.{◌≡◌, refl, sym, ap, ap₂, ◌∙◌}
use mathlib.Core.List.{List, [], ◌∷◌}
use Prim.Native.Nat.{ℕ, zero, suc, ◌≤◌, ◌<◌, ◌^◌}
use native.Mathlib.Decide.{ℕ_discrete}
use native.Mathlib.Omega.{arith}
use lib.Dec.{lit<}
use lib.ListN.{length, get_or, set, length-set}
use lib.Seq.{get_or-set_same, get_or-set_other}
use Rattle.binary_field.specs.Xor.{◌⊕◌}
use Rattle.binary_field.specs.XorLaws.{⊕-zero-l}
use Rattle.binary_field.specs.Product.{product}
use Rattle.binary_field.specs.ProductLaws.{product-one}
use Rattle.binary_field.specs.PowerLaws.{power_zero}
use Rattle.binary_field.specs.Sum.{sum_below, inner_product}
use Rattle.binary_field.specs.SumLaws.{sum-none, sum-suc, sum-ext, sum_lt}
use Rattle.byte_edition.specs.Edition.{byte_edition}
use Rattle.code.specs.Word.{group_sum, local_sum}
use Rattle.code.specs.StretchLaws.{own-place}
use Rattle.byte_edition.specs.Rows.{power_rows, no_row}
use Rattle.byte_edition.specs.RowsLaws.{power_at}
use Rattle.byte_edition.proofs.Laws.{ones-sum}
use Rattle.code.specs.Edition.{times, raised}
use Rattle.code.specs.Marks.{lost_in}
use Rattle.code_engine.specs.Elimination.{entry}
use Rattle.code_engine.specs.Positions.{Positions}
use Rattle.code_engine.specs.Placed.{placed}
use Rattle.code_engine.specs.Filled.{FilledIn}
use Rattle.code_engine.specs.FilledLaws.{filled-by}
use Rattle.fill.specs.OneLost.{with_others_sum}

-- ---- a syndrome
pub syndrome : (part : List ℕ) (e : ℕ) → e < 4 → length part ≤ 16
    → inner_product 8 285 (length part) part (get_or power_rows e no_row) ≡ local_sum byte_edition (length part) part 0 e
unfolding inner_product group_sum
syndrome part e h l =
    sum-ext (length part) _ _ (λ j b. ap₂ (product 8 285) (ap (λ p. get_or part p 0) (sym (own-place (length part) j))) (power_at e j h (omega arith)))

-- ---- one lost place
-- a right side, in column 4
one_row : ℕ → List (List ℕ)
one_row s = (0 ∷ 0 ∷ 0 ∷ 0 ∷ s ∷ []) ∷ []

module _ (marks xs at : List ℕ) (P : Positions marks (length xs) at 1) (small : (i : ℕ) → get_or xs i 0 < 256) (narrow : length xs ≤ 16) where
  cleared : List ℕ
  cleared = set xs (get_or at 0 0) 0

  others : ℕ
  others = sum_below (length cleared) (λ i. get_or cleared i 0)

  cleared-lt : (i : ℕ) → get_or cleared i 0 < 256
  unfolding cleared
  cleared-lt i = elim (ℕ_discrete i (get_or at 0 0)) [
    | yes e ↦ (rw (e, get_or-set_same xs (get_or at 0 0) 0 0 (P.inside 0 (lit< tt))) (lit< tt))
    | no n ↦ (rw (get_or-set_other xs (get_or at 0 0) i 0 0 n) (small i))
  ]

  -- equation 0
  others-sum : others ≡ local_sum byte_edition (length cleared) cleared 0 0
  unfolding others cleared
  others-sum =
      let e = length-set xs (get_or at 0 0) 0 in
      ones-sum cleared cleared-lt (omega arith) ∙ syndrome cleared 0 (lit< tt) (omega arith)

  others-lt : others < 2 ^ 8
  unfolding others
  others-lt = sum_lt 8 (length cleared) _ (λ i _. cleared-lt i)

  solved-one : (e : ℕ) → e < 1 → sum_below 1 (λ i. times byte_edition (entry (one_row others) i 4) (raised byte_edition (byte_edition.locator (get_or at i 0)) e))
      ≡ local_sum byte_edition (length cleared) cleared 0 e
  unfolding one_row
  solved-one e l =
      let z : e ≡ 0 = omega arith in
      rw z (sum-suc 0 _ ∙ ap (λ s. s ⊕ times byte_edition others (raised byte_edition (byte_edition.locator (get_or at 0 0)) 0)) (sum-none _) ∙ ⊕-zero-l _
      ∙ ap (times byte_edition others) (power_zero 8 285 _) ∙ product-one 8 285 (lit< tt) others others-lt ∙ others-sum)

  pub filled-one : length marks ≡ length xs → 1 ≡ lost_in (length xs) marks 0 → FilledIn byte_edition marks xs (with_others_sum xs (get_or at 0 0))
  unfolding placed one_row others cleared
  filled-one same one =
      filled-by marks xs cleared (set cleared (get_or at 0 0) others) at (one_row 0) (one_row others) 1 P refl refl byte_edition zero-at narrow solved-one same (lit< tt)
      one
    where
      zero-at : (i : ℕ) → entry (one_row 0) i 4 ≡ 0
      zero-at zero = refl
      zero-at (suc i) = refl
