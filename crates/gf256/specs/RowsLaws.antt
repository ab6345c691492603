-- Laws: The rows of sixteen that the inverse is made of: the inverse of a is a^16 times the inverse of its norm a^17, which is a locator.
use Rattle.std.specs.Prelude.{◌≡◌, Bool, ◌&&◌, T, eqb, ltb}
use Rattle.std.proofs.Math.Path.{sym, ap}
use Rattle.std.proofs.Common.{ap₂, ◌∙◌, div-add-mod', mod-lt, zero-lt-suc, le_of_suc-le-suc, arith, lit<}
use Prim.Native.Nat.{ℕ, zero, suc, ◌*◌, ◌/◌, ◌%◌, ◌<◌}
use Rattle.std.proofs.Math.Decide.{ℕ_discrete}
use Rattle.std.proofs.Math.Dec.{eqb→eq, ltb→lt}
use Rattle.std.proofs.Math.ListN.{get_or}
use Rattle.counting.specs.Test.{all_below}
use Rattle.counting.specs.TestLaws.{and_l, and_r, all-at}
use Rattle.binary_field.specs.Xor.{◌⊕◌, masked}
use Rattle.binary_field.specs.XorLaws.{⊕-shifted, ⊕-comm}
use Rattle.binary_field.specs.Product.{double, bit_sum, product}
use Rattle.binary_field.specs.ProductLaws.{product_lt, product-comm, product-assoc, zero-product}
use Rattle.binary_field.specs.Power.{power, squares}
use Rattle.binary_field.specs.PowerLaws.{power-lt, power-suc, power-mul, power-squares, product-power}
use Rattle.binary_field.specs.Inverse.{inverse}
use Rattle.binary_field.specs.InverseLaws.{power_size}
use Rattle.gf256.specs.Bytes.{halving}
use Rattle.gf256.specs.BytesLaws.{is_field_lem, sixteenth, no-zero-divisors, inverse-zero, inverse-only}
use Rattle.gf256.specs.Locators.{locators}
use Rattle.gf256.specs.LocatorsLaws.{Locator, fixed-locator}
use Rattle.gf256.specs.Rows.{sixteenths_low, sixteenths_high, locators_by_low, locator_inverses}

-- ---- sixteenth powers
low_right : ℕ → Bool
low_right i = eqb (get_or sixteenths_low i 0) (squares 8 285 4 i)

high_right : ℕ → Bool
high_right i = eqb (get_or sixteenths_high i 0) (squares 8 285 4 (i * 16))

-- the rule over both rows
sixteenths-rule : T (all_below 16 low_right && all_below 16 high_right)
unfolding low_right high_right sixteenths_low sixteenths_high squares product bit_sum double masked ◌⊕◌
sixteenths-rule = tt

module _ (i : ℕ) (h : i < 16) where
  low-is : get_or sixteenths_low i 0 ≡ power 8 285 i 16
  unfolding low_right
  low-is =
      eqb→eq (get_or sixteenths_low i 0) (squares 8 285 4 i) (all-at 16 low_right (and_l (all_below 16 low_right) (all_below 16 high_right) sixteenths-rule) i h)
      ∙ sym (power-squares 8 285 (lit< tt) i 4 (omega arith))

  high_is : get_or sixteenths_high i 0 ≡ power 8 285 (i * 16) 16
  unfolding high_right
  high_is =
      eqb→eq (get_or sixteenths_high i 0) (squares 8 285 4 (i * 16)) (all-at 16 high_right (and_r (all_below 16 low_right) (all_below 16 high_right) sixteenths-rule) i
      h)
      ∙ sym (power-squares 8 285 (lit< tt) (i * 16) 4 (omega arith))

-- what the two halves of a byte give add up to its sixteenth power
pub sixteenths : (a : ℕ) → a < 256 → get_or sixteenths_low (a % 16) 0 ⊕ get_or sixteenths_high (a / 16) 0 ≡ power 8 285 a 16
sixteenths a h =
    let l : a % 16 < 16 = mod-lt a (zero-lt-suc 15) in
    ap₂ ◌⊕◌ (low-is (a % 16) l) (high_is (a / 16) (omega arith)) ∙ ⊕-comm (power 8 285 (a % 16) 16) (power 8 285 (a / 16 * 16) 16)
    ∙ sym (sixteenth (a / 16 * 16) (a % 16)) ∙ ap (λ x. power 8 285 x 16) (⊕-shifted (a / 16) 4 (a % 16) l ∙ div-add-mod' a 16)

-- ---- inverses of the locators
found_right : ℕ → Bool
found_right j = eqb (get_or locators_by_low (get_or locators j 0 % 16) 0) (get_or locators j 0)

inverse_right : ℕ → Bool
inverse_right i =
    ltb (get_or locator_inverses (suc i) 0) 256 && eqb (product 8 285 (get_or locators_by_low (suc i) 0) (get_or locator_inverses (suc i) 0)) 1

-- the rule over both rows: each locator is found by its low four bits, and what stands there is its inverse
inverses-rule : T (all_below 16 found_right && all_below 15 inverse_right)
unfolding found_right inverse_right locators locators_by_low locator_inverses product bit_sum double masked ◌⊕◌
inverses-rule = tt

locator-found : (a : ℕ) → Locator a → get_or locators_by_low (a % 16) 0 ≡ a
unfolding found_right
locator-found a l =
    ap (λ x. get_or locators_by_low (x % 16) 0) (sym l.is)
    ∙ eqb→eq (get_or locators_by_low (get_or locators l.place 0 % 16) 0) (get_or locators l.place 0)
    (all-at 16 found_right (and_l (all_below 16 found_right) (all_below 15 inverse_right) inverses-rule) l.place l.place-lt)
    ∙ l.is

module _ (a : ℕ) (found : get_or locators_by_low (a % 16) 0 ≡ a) (n : a ≡ 0 → ⊥) where
  inverse-tested : (get_or locator_inverses (a % 16) 0 < 256) × (product 8 285 a (get_or locator_inverses (a % 16) 0) ≡ 1)
  unfolding inverse_right locators_by_low
  inverse-tested = at (a % 16) (mod-lt a (zero-lt-suc 15)) found
    where
      at : (i : ℕ) → i < 16 → get_or locators_by_low i 0 ≡ a → (get_or locator_inverses i 0 < 256) × (product 8 285 a (get_or locator_inverses i 0) ≡ 1)
      at zero h e = absurd (n (sym e))
      at (suc i) h e =
          let t = all-at 15 inverse_right (and_r (all_below 16 found_right) (all_below 15 inverse_right) inverses-rule) i (le_of_suc-le-suc h) in (
            ltb→lt (get_or locator_inverses (suc i) 0) 256 (and_l (ltb (get_or locator_inverses (suc i) 0) 256) _ t),
            ap (λ x. product 8 285 x (get_or locator_inverses (suc i) 0)) (sym e)
                ∙ eqb→eq (product 8 285 (get_or locators_by_low (suc i) 0) (get_or locator_inverses (suc i) 0)) 1
                (and_r (ltb (get_or locator_inverses (suc i) 0) 256) _ t),
          )

-- the inverse of a locator, 0 included
pub inverse-found : (a : ℕ) → a < 256 → get_or locators_by_low (a % 16) 0 ≡ a → get_or locator_inverses (a % 16) 0 ≡ inverse 8 285 a
unfolding locator_inverses
inverse-found a h found = elim (ℕ_discrete a 0) [
  | yes e ↦ ap (λ x. get_or locator_inverses (x % 16) 0) e ∙ sym (ap (inverse 8 285) e ∙ inverse-zero)
  | no n ↦ (let t = inverse-tested a found n in inverse-only a (get_or locator_inverses (a % 16) 0) h t.0 n t.1)
]

-- ---- the norm a^17 of a byte
module _ (a : ℕ) (h : a < 256) where
  norm : ℕ
  norm = product 8 285 a (power 8 285 a 16)

  norm-fixed : power 8 285 norm 16 ≡ norm
  unfolding norm
  norm-fixed =
      product-power 8 285 (lit< tt) a (power 8 285 a 16) 16
      ∙ ap (product 8 285 (power 8 285 a 16)) (sym (power-mul 8 285 (lit< tt) a 16 16) ∙ power_size 8 285 (lit< tt) halving is_field_lem a h)
      ∙ product-comm 8 285 (power 8 285 a 16) a

  norm-locator : Locator (product 8 285 a (power 8 285 a 16))
  unfolding norm
  norm-locator = fixed-locator norm (product_lt 8 285 a (power 8 285 a 16)) norm-fixed

  -- the inverse of a: its sixteenth power times the inverse of its norm
  pub inverse-by-norm : product 8 285 (power 8 285 a 16) (get_or locator_inverses (product 8 285 a (power 8 285 a 16) % 16) 0) ≡ inverse 8 285 a
  inverse-by-norm = go (ℕ_discrete a 0)
    where
      s : ℕ
      s = power 8 285 a 16

      t : ℕ
      t = get_or locator_inverses (product 8 285 a (power 8 285 a 16) % 16) 0

      zero-sixteenth : power 8 285 0 16 ≡ 0
      zero-sixteenth = power-suc 8 285 0 15 ∙ zero-product 8 285 (power 8 285 0 15)

      nonzero : (a ≡ 0 → ⊥) → power 8 285 a 16 ≡ 0 → ⊥
      nonzero n e = n (sym (power_size 8 285 (lit< tt) halving is_field_lem a h) ∙ power-mul 8 285 (lit< tt) a 16 16 ∙ ap (λ x. power 8 285 x 16) e
          ∙ zero-sixteenth)

      go : Dec (a ≡ 0) → product 8 285 (power 8 285 a 16) (get_or locator_inverses (product 8 285 a (power 8 285 a 16) % 16) 0) ≡ inverse 8 285 a
      go (yes e) =
          ap (λ x. product 8 285 x t) (ap (λ x. power 8 285 x 16) e ∙ zero-sixteenth) ∙ zero-product 8 285 t
          ∙ sym (ap (inverse 8 285) e ∙ inverse-zero)
      go (no n) =
          inverse-only a (product 8 285 s t) h (product_lt 8 285 s t) n
          (sym (product-assoc 8 285 a s t)
          ∙ (inverse-tested (product 8 285 a s) (locator-found (product 8 285 a s) norm-locator)
          (λ e. nonzero n (no-zero-divisors a s h (power-lt 8 285 (lit< tt) a 16) n e))).1)
