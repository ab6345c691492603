-- Laws: The sixteen locators: the constant table, its power rule by one test, and that they are the subfield of 16 elements.
use Rattle.std.specs.Prelude.{◌≡◌, refl, Bool, not, ◌&&◌, ℕ, zero, suc, ◌*◌, ◌<◌, T, eqb, ltb, get_or}
use Rattle.std.proofs.Common.{sym, ap, ◌∙◌, subst, mul-zero, mul-suc, add_comm, arith, eqb→eq, ltb→lt, T_not, lit<}
use Rattle.std.proofs.Math.Path.{ap₂}
use Rattle.std.proofs.Math.Decide.{dec_lt}
use Rattle.std.proofs.Math.Dec.{eqb_refl}
use Rattle.binary_field.specs.Xor.{◌⊕◌, masked}
use Rattle.binary_field.specs.XorLaws.{⊕-lt}
use Rattle.counting.specs.Test.{all_below, any_below, same}
use Rattle.counting.specs.TestLaws.{and_l, and_r, all-at, any_at, any-intro, same-from-l, same-from-r}
use Rattle.binary_field.specs.Product.{double, bit_sum, product}
use Rattle.binary_field.specs.ProductLaws.{product_lt}
use Rattle.binary_field.specs.Power.{power, squares}
use Rattle.binary_field.specs.PowerLaws.{power_zero, power-add, power-squares, frobenius, product-power}
use Rattle.gf256.specs.BytesLaws.{power-17}
use Rattle.gf256.specs.Locators.{locators}

-- the first is 1, and each of the next fourteen is 152 times the one before
next_right : ℕ → Bool
next_right j = eqb (get_or locators (suc j) 0) (product 8 285 152 (get_or locators j 0))

power_rule : Bool
power_rule = eqb (get_or locators 0 0) 1 && all_below 14 next_right

power-rule : T power_rule
unfolding power_rule next_right locators product bit_sum double masked ◌⊕◌
power-rule = tt

-- "Place j below 15 has 2 to the power 17j."
pub locator-power : (j : ℕ) → j < 15 → get_or locators j 0 ≡ power 8 285 2 (17 * j)
unfolding power_rule next_right
locator-power zero h = eqb→eq (get_or locators 0 0) 1 (and_l (eqb (get_or locators 0 0) 1) (all_below 14 next_right) power-rule)
    ∙ sym (ap (power 8 285 2) (mul-zero 17) ∙ power_zero 8 285 2)
locator-power (suc j) h =
    eqb→eq (get_or locators (suc j) 0) (product 8 285 152 (get_or locators j 0))
    (all-at 14 next_right (and_r (eqb (get_or locators 0 0) 1) (all_below 14 next_right) power-rule) j (omega arith))
    ∙ ap₂ (product 8 285) (sym power-17) (locator-power j (omega arith)) ∙ sym (power-add 8 285 (lit< tt) 2 17 (17 * j))
    ∙ ap (power 8 285 2) (add_comm 17 (17 * j) ∙ sym (mul-suc 17 j))

-- ---- the subfield of 16 elements: the bytes with a^16 = a
is_locator : ℕ → Bool
is_locator a = any_below 16 (λ j. eqb (get_or locators j 0) a)

-- each byte is a locator exactly if its sixteenth power, by four squares, is itself
subfield_right : ℕ → Bool
subfield_right a = same (eqb (squares 8 285 4 a) a) (is_locator a)

subfield-rule : T (all_below 256 subfield_right)
unfolding subfield_right is_locator locators squares product bit_sum double masked ◌⊕◌
subfield-rule = tt

locator_small : ℕ → Bool
locator_small j = ltb (get_or locators j 0) 256

small-rule : T (all_below 16 locator_small)
unfolding locator_small locators
small-rule = tt

pub locator-lt : (j : ℕ) → j < 16 → get_or locators j 0 < 256
unfolding locator_small
locator-lt j h = ltb→lt (get_or locators j 0) 256 (all-at 16 locator_small small-rule j h)

sixteenth-power : (a : ℕ) → a < 256 → power 8 285 a 16 ≡ squares 8 285 4 a
sixteenth-power a h = power-squares 8 285 (lit< tt) a 4 h

-- the byte a is one of the sixteen
pub record Locator (a : ℕ) : Type 0 where
  pub place : ℕ
  pub place-lt : place < 16
  pub is : get_or locators place 0 ≡ a

-- "They form the subfield of 16 elements": a^16 = a for each
pub locator-fixed : (j : ℕ) → j < 16 → power 8 285 (get_or locators j 0) 16 ≡ get_or locators j 0
unfolding subfield_right is_locator
locator-fixed j h =
    let a : ℕ = get_or locators j 0 in
    let l : a < 256 = locator-lt j h in
    sixteenth-power a l
    ∙ eqb→eq (squares 8 285 4 a) a
    (same-from-r (eqb (squares 8 285 4 a) a) (is_locator a) (all-at 256 subfield_right subfield-rule a l)
    (any-intro 16 (λ i. eqb (get_or locators i 0) a) j h (eqb_refl a)))

-- and for no other byte
pub fixed-locator : (a : ℕ) → a < 256 → power 8 285 a 16 ≡ a → Locator a
unfolding subfield_right is_locator
fixed-locator a l e =
    let t : T (is_locator a) =
    same-from-l (eqb (squares 8 285 4 a) a) (is_locator a) (all-at 256 subfield_right subfield-rule a l)
    (subst (λ x. T (eqb x a)) (sym (sym (sixteenth-power a l) ∙ e)) (eqb_refl a)) in
    let w = any_at 16 (λ j. eqb (get_or locators j 0) a) t in
    record { place = w.0; place-lt = w.1; is = eqb→eq (get_or locators w.0 0) a w.2 }

module _ (i j : ℕ) (hi : i < 16) (hj : j < 16) where
  a : ℕ
  a = get_or locators i 0

  b : ℕ
  b = get_or locators j 0

  -- closed under sum
  pub locator-sum : Locator (get_or locators i 0 ⊕ get_or locators j 0)
  unfolding a b
  locator-sum = fixed-locator (a ⊕ b) (⊕-lt 8 a b (locator-lt i hi) (locator-lt j hj))
      (frobenius 8 285 (lit< tt) a b 4 ∙ ap₂ ◌⊕◌ (locator-fixed i hi) (locator-fixed j hj))

  -- and under product
  pub locator-product : Locator (product 8 285 (get_or locators i 0) (get_or locators j 0))
  unfolding a b
  locator-product =
      fixed-locator (product 8 285 a b) (product_lt 8 285 a b)
      (product-power 8 285 (lit< tt) a b 16 ∙ ap₂ (product 8 285) (locator-fixed i hi) (locator-fixed j hj))

-- ---- no two are the same
apart_right : ℕ → Bool
apart_right s = all_below s (λ t. not (eqb (get_or locators s 0) (get_or locators t 0)))

apart-rule : T (all_below 16 apart_right)
unfolding apart_right locators
apart-rule = tt

apart-less : (s t : ℕ) → s < 16 → t < s → get_or locators s 0 ≡ get_or locators t 0 → ⊥
unfolding apart_right
apart-less s t hs h e =
    T_not (eqb (get_or locators s 0) (get_or locators t 0))
    (all-at s (λ t. not (eqb (get_or locators s 0) (get_or locators t 0))) (all-at 16 apart_right apart-rule s hs) t h)
    (subst (λ x. T (eqb (get_or locators s 0) x)) e (eqb_refl (get_or locators s 0)))

pub locators-apart : (s t : ℕ) → s < 16 → t < 16 → ¬ (s ≡ t) → ¬ (get_or locators s 0 ≡ get_or locators t 0)
locators-apart s t hs ht n e = elim (dec_lt t s) [ yes h ↦ apart-less s t hs h e | no h ↦ apart-less t s ht (omega arith) (sym e) ]
