use Rattle.std.proofs.Common.{◌≡◌, refl, ap, ◌∙◌, List, ℕ, arith, get_or, take, get_or-take}
use Rattle.wide_field.specs.LocatorRow.{locator_row}
use Rattle.wide_field.specs.LocatorRowLaws.{row_at}
use Rattle.wide_sums.specs.PowerSums.{IsRow}
use Rattle.wide_sums.proofs.short_locators.Goals as goal

-- the front of the row of all locators
front : (r : List ℕ) → r ≡ take 16 locator_row → IsRow 16 r
front r e j l = ap (λ x. get_or x j 0) e ∙ get_or-take 16 locator_row j 0 l ∙ row_at j (omega arith)

pub returns : goal.returns
unfolding locator_row
returns c = (refl, front _ refl)
