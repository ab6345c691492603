-- The symbols that solve for the lost places of a group have the power sums of the rest.
use Rattle.std.specs.Prelude.{◌≡◌, List, ℕ, ◌≤◌, ◌<◌, length, get_or}
use Rattle.std.proofs.Common.{sym, ap, ap₂, ◌∙◌, arith}
use Rattle.binary_field.specs.XorLaws.{⊕-cancel}
use Rattle.binary_field.specs.Product.{product}
use Rattle.binary_field.specs.Power.{power}
use Rattle.binary_field.specs.Sum.{sum_below}
use Rattle.binary_field.specs.SumLaws.{sum-ext}
use Rattle.code.specs.Edition.{times, raised}
use Rattle.code.specs.Word.{local_sum}
use Rattle.code_engine.specs.Elimination.{entry}
use Rattle.wide_field.specs.Locators.{locator}
use Rattle.wide_field.specs.LocatorsLaws.{locators-apart}
use Rattle.wide_field.specs.LocatorRow.{locator_row}
use Rattle.wide_field.specs.LocatorRowLaws.{row_at}
use Rattle.wide_shape.specs.Edition.{wide_edition}
use Rattle.wide_sums.specs.PowerSums.{PowerSums}
use Rattle.wide_solve.specs.Small.{IsSmall}
use Rattle.wide_solve.specs.SmallLaws.{small-add, locator-small}
use Rattle.wide_solve.specs.Peel.{HasSums, Apart}
use Rattle.wide_solve.specs.Column.{column_of}
use Rattle.wide_solve.specs.ColumnLaws.{column-at}

module _ (at x : List ℕ) (t : ℕ) (few : t ≤ 4) (inside : (i : ℕ) → i < t → get_or at i 0 < 256)
    (ascending : (i j : ℕ) → i < j → j < t → get_or at i 0 < get_or at j 0) (row : (i : ℕ) → i < 4 → get_or x i 0 ≡ get_or locator_row (get_or at i 0) 0) where
  own : (i : ℕ) → i < t → get_or x i 0 ≡ locator (get_or at i 0)
  own i h = row i (omega arith) ∙ row_at (get_or at i 0) (inside i h)

  small : (i : ℕ) → i < t → IsSmall (get_or x i 0)
  small i h = rw (row i (omega arith)) (locator-small (get_or at i 0) (inside i h))

  -- the locators of lost places differ
  pub locators-differ : Apart t (λ i. get_or x i 0)
  locators-differ i j l h =
      let k : i < t = omega arith in
      let a = ascending i j l h in (
        small-add (get_or x i 0) (get_or x j 0) (small i k) (small j h),
        λ e. locators-apart (get_or at i 0) (get_or at j 0) (inside i k) (inside j h) (omega arith) (sym (own i k) ∙ ⊕-cancel e ∙ own j h),
      )

  pub solved-by : (ys u sums : List ℕ) → PowerSums ys t sums → HasSums 16 69643 t (λ i. get_or x i 0) (λ i. get_or u i 0) (λ e. get_or sums e 0) → (e : ℕ) → e < t
      → sum_below t (λ i. times wide_edition (entry (column_of u) i 4) (raised wide_edition (wide_edition.locator (get_or at i 0)) e))
      ≡ local_sum wide_edition (length ys) ys 0 e
  solved-by ys u sums P H e h =
      sum-ext t _ _ (λ i l. ap₂ (product 16 69643) (column-at u i) (ap (λ a. power 16 69643 a e) (sym (own i l)))) ∙ H e h ∙ P e h
