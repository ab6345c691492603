-- Laws: The 256 locators as a constant row: each entry but the last is 2^257 times the one before.
use Rattle.std.specs.Prelude.{◌≡◌, refl, Bool, ℕ, zero, suc, ◌<◌, T, eqb, length, get_or}
use Rattle.std.proofs.Common.{sym, ap, ◌∙◌, subst, arith, eqb→eq}
use Rattle.std.proofs.Math.Decide.{dec_lt}
use Rattle.counting.specs.Test.{all_below}
use Rattle.counting.specs.TestLaws.{all-at}
use Rattle.binary_field.specs.Xor.{◌⊕◌, masked}
use Rattle.binary_field.specs.Product.{double, bit_sum, product}
use Rattle.binary_field.specs.Power.{power}
use Rattle.binary_field.specs.PowerLaws.{power_zero, power-suc}
use Rattle.wide_field.specs.Locators.{locator}
use Rattle.wide_field.specs.LocatorsLaws.{locator-power, locator-last}
use Rattle.wide_field.specs.LocatorRow.{locator_row}

step_right : ℕ → Bool
step_right j = eqb (get_or locator_row (suc j) 0) (product 16 69643 5726 (get_or locator_row j 0))

step-rule : T (all_below 254 step_right)
unfolding step_right locator_row product bit_sum double masked ◌⊕◌
step-rule = tt

first : get_or locator_row 0 0 ≡ 1
unfolding locator_row
first = refl

last : get_or locator_row 255 0 ≡ 0
unfolding locator_row
last = refl

pub row-length : length locator_row ≡ 256
unfolding locator_row
row-length = refl

power_at : (j : ℕ) → j < 255 → get_or locator_row j 0 ≡ power 16 69643 5726 j
unfolding step_right
power_at zero h = first ∙ sym (power_zero 16 69643 5726)
power_at (suc j) h =
    eqb→eq (get_or locator_row (suc j) 0) (product 16 69643 5726 (get_or locator_row j 0)) (all-at 254 step_right step-rule j (omega arith))
    ∙ ap (product 16 69643 5726) (power_at j (omega arith)) ∙ sym (power-suc 16 69643 5726 j)

-- "locators 2^(257j) for j from 0 to 254, then 0"
pub row_at : (j : ℕ) → j < 256 → get_or locator_row j 0 ≡ locator j
row_at j h = elim (dec_lt j 255) [
  | yes k ↦ power_at j k ∙ sym (locator-power j k)
  | no k ↦ (let e : j ≡ 255 = omega arith in subst (λ n. get_or locator_row n 0 ≡ locator n) (sym e) (last ∙ sym (locator-last 255 (omega arith))))
]
