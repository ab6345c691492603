-- Laws: The field of bytes: 8 bits, modulo x^8 + x^4 + x^3 + x^2 + 1, which is 285. Its laws are those of binary_field at 8 and 285;
-- here stand the two tests that make it a field, the order of 2, and what follows for bytes.
use Rattle.std.specs.Prelude.{◌≡◌, refl, ℕ, suc, ◌<◌, T}
use Rattle.std.proofs.Common.{sym, ap, ◌∙◌, subst, mod-eq_of_lt, lit<}
use Rattle.binary_field.specs.Xor.{◌⊕◌, masked}
use Rattle.binary_field.specs.Product.{double, bit_sum, product}
use Rattle.binary_field.specs.ProductLaws.{product-assoc, product-comm, one_product, product-one, zero-product}
use Rattle.binary_field.specs.Power.{power, squares}
use Rattle.binary_field.specs.PowerLaws.{power-suc, power-double, frobenius}
use Rattle.binary_field.specs.InverseLaws as ILaws
use Rattle.binary_field.specs.Inverse.{is_field, linear_map, inverse}
use Rattle.binary_field.specs.InverseLaws.{inverse-lt, product-inverse}
use Rattle.binary_field.specs.ElementOrder.{returns_at, Order}
use Rattle.binary_field.specs.ElementOrderLaws.{order-of, order-product}
use Rattle.gf256.specs.Bytes.{halving}

pub is_field_lem : T (is_field 8 285 halving)
unfolding is_field linear_map squares product bit_sum double masked ◌⊕◌ halving
is_field_lem = tt

pub one-times : (a : ℕ) → a < 256 → product 8 285 1 a ≡ a
one-times a h = one_product 8 285 (lit< tt) a ∙ mod-eq_of_lt h

-- an inverse for every byte but 0
pub times-inverse : (a : ℕ) → a < 256 → (a ≡ 0 → ⊥) → product 8 285 a (inverse 8 285 a) ≡ 1
times-inverse = product-inverse 8 285 (lit< tt) halving is_field_lem

pub no-zero-divisors : (a b : ℕ) → a < 256 → b < 256 → (a ≡ 0 → ⊥) → product 8 285 a b ≡ 0 → b ≡ 0
no-zero-divisors = ILaws.no-zero-divisors 8 285 (lit< tt) halving is_field_lem

pub inverse-zero : inverse 8 285 0 ≡ 0
unfolding inverse
inverse-zero = power-suc 8 285 0 253 ∙ zero-product 8 285 (power 8 285 0 253)

-- and only one
pub inverse-only : (a b : ℕ) → a < 256 → b < 256 → (a ≡ 0 → ⊥) → product 8 285 a b ≡ 1 → b ≡ inverse 8 285 a
inverse-only a b ha hb ne e =
    sym (one-times b hb) ∙ ap (λ x. product 8 285 x b) (sym (times-inverse a ha ne) ∙ product-comm 8 285 a (inverse 8 285 a))
    ∙ product-assoc 8 285 (inverse 8 285 a) a b ∙ ap (product 8 285 (inverse 8 285 a)) e
    ∙ product-one 8 285 (lit< tt) (inverse 8 285 a) (inverse-lt 8 285 (lit< tt) a)

-- a power of 2 is the double of the one before
two : double 8 285 1 ≡ 2
unfolding double masked ◌⊕◌
two = refl

pub power-next : (n : ℕ) → power 8 285 2 (suc n) ≡ double 8 285 (power 8 285 2 n)
power-next n = subst (λ g. power 8 285 g (suc n) ≡ double 8 285 (power 8 285 g n)) two (power-double 8 285 (lit< tt) n)

-- (a + b)^16 = a^16 + b^16
pub sixteenth : (a b : ℕ) → power 8 285 (a ⊕ b) 16 ≡ power 8 285 a 16 ⊕ power 8 285 b 16
sixteenth a b = frobenius 8 285 (lit< tt) a b 4

at-15 : power 8 285 2 15 ≡ 38
unfolding power product bit_sum double masked ◌⊕◌
at-15 = refl

pub power-17 : power 8 285 2 17 ≡ 152
unfolding power product bit_sum double masked ◌⊕◌
power-17 = refl

walk-17 : T (returns_at 8 285 16 38 38)
unfolding returns_at product bit_sum double masked ◌⊕◌
walk-17 = tt

walk-15 : T (returns_at 8 285 14 152 152)
unfolding returns_at product bit_sum double masked ◌⊕◌
walk-15 = tt

-- "2 has order 255."
pub order-two : Order 8 285 2 255
order-two =
    order-product 8 285 (lit< tt) 2 14 16 (rw at-15 (order-of 8 285 (lit< tt) 16 38 (lit< tt) walk-17))
    (rw power-17 (order-of 8 285 (lit< tt) 14 152 (lit< tt) walk-15))
