-- The row of ones.
use mathlib.Core.Path.{◌≡◌, sym, ap, ◌∙◌}
use mathlib.Core.List.{List}
use Prim.Native.Nat.{ℕ, ◌<◌, ◌≤◌}
use native.Mathlib.Omega.{arith}
use lib.Dec.{lit<}
use lib.ListN.{length, get_or}
use Rattle.binary_field.specs.Product.{product}
use Rattle.binary_field.specs.ProductLaws.{product-one}
use Rattle.binary_field.specs.PowerLaws.{power_zero}
use Rattle.binary_field.specs.Sum.{sum_below, inner_product}
use Rattle.binary_field.specs.SumLaws.{sum-ext}
use Rattle.byte_edition.specs.Edition.{byte_edition}
use Rattle.byte_edition.specs.Rows.{power_rows, no_row}
use Rattle.byte_edition.specs.RowsLaws.{power_at}

-- the power 0 of every locator is 1
pub ones-sum : (u : List ℕ) → ((i : ℕ) → get_or u i 0 < 256) → length u ≤ 16
    → sum_below (length u) (λ i. get_or u i 0) ≡ inner_product 8 285 (length u) u (get_or power_rows 0 no_row)
unfolding inner_product
ones-sum u small h =
    sum-ext (length u) _ _
    (λ i l.
    sym (product-one 8 285 (lit< tt) (get_or u i 0) (small i))
    ∙ ap (product 8 285 (get_or u i 0)) (sym (power_at 0 i (lit< tt) (omega arith) ∙ power_zero 8 285 (byte_edition.locator i))))
