-- Laws: The field of 65,536 elements: 16 bits, modulo x^16 + x^12 + x^3 + x + 1, which is 69643. Its laws are those of binary_field at 16 and
-- 69643; here stand the two tests that make it a field and the order of 2.
use Rattle.std.specs.Prelude.{◌≡◌, refl, T}
use Rattle.std.proofs.Common.{lit<}
use Rattle.binary_field.specs.Xor.{◌⊕◌, masked}
use Rattle.binary_field.specs.Product.{double, bit_sum, product}
use Rattle.binary_field.specs.Power.{power, squares}
use Rattle.binary_field.specs.Inverse.{is_field, linear_map}
use Rattle.binary_field.specs.ElementOrder.{returns_at, Order}
use Rattle.binary_field.specs.ElementOrderLaws.{order-of, order-product}
use Rattle.wide_field.specs.Symbols.{halving}

pub is_field_lem : T (is_field 16 69643 halving)
unfolding is_field linear_map squares product bit_sum double masked ◌⊕◌ halving
is_field_lem = tt

at-255 : power 16 69643 2 255 ≡ 36242
unfolding power product bit_sum double masked ◌⊕◌
at-255 = refl

pub at-257 : power 16 69643 2 257 ≡ 5726
unfolding power product bit_sum double masked ◌⊕◌
at-257 = refl

at-15 : power 16 69643 5726 15 ≡ 19832
unfolding power product bit_sum double masked ◌⊕◌
at-15 = refl

at-17 : power 16 69643 5726 17 ≡ 26
unfolding power product bit_sum double masked ◌⊕◌
at-17 = refl

walk-257 : T (returns_at 16 69643 256 36242 36242)
unfolding returns_at product bit_sum double masked ◌⊕◌
walk-257 = tt

walk-17 : T (returns_at 16 69643 16 19832 19832)
unfolding returns_at product bit_sum double masked ◌⊕◌
walk-17 = tt

walk-15 : T (returns_at 16 69643 14 26 26)
unfolding returns_at product bit_sum double masked ◌⊕◌
walk-15 = tt

-- 2^257 is of order 255 = 15·17: it is the first locator after 1, and its powers are all of them but 0
pub order-locator : Order 16 69643 5726 255
order-locator =
    order-product 16 69643 (lit< tt) 5726 14 16
    (rw at-15 (order-of 16 69643 (lit< tt) 16 19832 (lit< tt) walk-17))
    (rw at-17 (order-of 16 69643 (lit< tt) 14 26 (lit< tt) walk-15))

-- "Show that 2 is primitive here rather than assume it": 65,535 = 255·257
pub order-two : Order 16 69643 2 65535
order-two =
    order-product 16 69643 (lit< tt) 2 254 256
    (rw at-255 (order-of 16 69643 (lit< tt) 256 36242 (lit< tt) walk-257))
    (rw at-257 order-locator)
