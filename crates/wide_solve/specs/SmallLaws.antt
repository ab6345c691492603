-- Laws: The field of 256 elements inside that of 65,536: sums of locators are in it, and the row has the inverse of each.
use Rattle.std.specs.Prelude.{◌≡◌, refl, Bool, ℕ, zero, suc, ◌/◌, ◌%◌, ◌^◌, ◌<◌, T, eqb, length, get_or}
use Rattle.std.proofs.Common.{sym, ap, ap₂, ◌∙◌, mod-lt, arith, lit<, eqb→eq}
use Rattle.counting.specs.Test.{all_below}
use Rattle.counting.specs.TestLaws.{all-at}
use Rattle.binary_field.specs.Xor.{◌⊕◌, masked}
use Rattle.binary_field.specs.XorLaws.{⊕-shr, ⊕-mod, ⊕-swap}
use Rattle.binary_field.specs.Product.{double, bit_sum, product}
use Rattle.binary_field.specs.ProductLaws.{product-left-comm, product-one}
use Rattle.binary_field.specs.Inverse.{linear_map}
use Rattle.binary_field.specs.AdditiveLaws.{map-add}
use Rattle.wide_field.specs.LocatorRow.{locator_row}
use Rattle.wide_solve.specs.Small.{digits, basis, IsSmall, inverse_row}

pub digits-add : (a b : ℕ) → digits (a ⊕ b) ≡ digits a ⊕ digits b
unfolding digits
digits-add a b =
    ap (λ x. x % 2 ^ 8) (ap (λ x. (a ⊕ b) ⊕ x) (⊕-shr a b 7) ∙ ⊕-swap a b (a / 2 ^ 7) (b / 2 ^ 7)) ∙ ⊕-mod (a ⊕ a / 2 ^ 7) (b ⊕ b / 2 ^ 7) 8

pub digits_lt : (a : ℕ) → digits a < 256
unfolding digits
digits_lt a = mod-lt (a ⊕ a / 2 ^ 7) (lit< tt)

-- sums stay in the small field
pub small-add : (a b : ℕ) → IsSmall a → IsSmall b → IsSmall (a ⊕ b)
unfolding IsSmall
small-add a b ha hb = ap (linear_map basis) (digits-add a b) ∙ map-add basis (digits a) (digits b) ∙ ap₂ ◌⊕◌ ha hb

-- each locator is in it
locator_right : ℕ → Bool
locator_right j = eqb (linear_map basis (digits (get_or locator_row j 0))) (get_or locator_row j 0)

locators-right : T (all_below 256 locator_right)
unfolding locator_right locator_row linear_map basis digits masked ◌⊕◌
locators-right = tt

pub locator-small : (j : ℕ) → j < 256 → IsSmall (get_or locator_row j 0)
unfolding IsSmall locator_right
locator-small j h = eqb→eq (linear_map basis (digits (get_or locator_row j 0))) (get_or locator_row j 0) (all-at 256 locator_right locators-right j h)

-- each entry of the row but the first is an inverse
inverse_right : ℕ → Bool
inverse_right b = eqb (product 16 69643 (linear_map basis (suc b)) (get_or inverse_row (suc b) 0)) 1

inverses_right : T (all_below 255 inverse_right)
unfolding inverse_right inverse_row linear_map basis product bit_sum double masked ◌⊕◌
inverses_right = tt

pub row-length : length inverse_row ≡ 256
unfolding inverse_row
row-length = refl

map-none : linear_map basis 0 ≡ 0
unfolding linear_map basis masked ◌⊕◌
map-none = refl

by_digits : (d : ℕ) → d < 256 → (linear_map basis d ≡ 0 → ⊥) → product 16 69643 (linear_map basis d) (get_or inverse_row d 0) ≡ 1
unfolding inverse_right
by_digits zero h n = absurd (n map-none)
by_digits (suc b) h n =
    eqb→eq (product 16 69643 (linear_map basis (suc b)) (get_or inverse_row (suc b) 0)) 1 (all-at 255 inverse_right inverses_right b (omega arith))

-- what the row has is the inverse
pub small-inverse : (a : ℕ) → IsSmall a → (a ≡ 0 → ⊥) → product 16 69643 a (get_or inverse_row (digits a) 0) ≡ 1
unfolding IsSmall
small-inverse a s n =
    ap (λ x. product 16 69643 x (get_or inverse_row (digits a) 0)) (sym s) ∙ by_digits (digits a) (digits_lt a) (λ z. n (sym s ∙ z))

-- so the product by it is the quotient
pub small-quotient : (a u : ℕ) → IsSmall a → (a ≡ 0 → ⊥) → u < 65536 → product 16 69643 a (product 16 69643 u (get_or inverse_row (digits a) 0)) ≡ u
small-quotient a u s n h =
    product-left-comm 16 69643 a u (get_or inverse_row (digits a) 0) ∙ ap (product 16 69643 u) (small-inverse a s n)
    ∙ product-one 16 69643 (lit< tt) u h
