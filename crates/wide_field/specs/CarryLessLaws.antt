-- Laws: The product of two polynomials over two elements before its reduction, and the reduction modulo 69643, x^16 + x^12 + x^3 + x + 1.
use Rattle.std.specs.Prelude.{◌≡◌, refl, Bool, ℕ, ◌+◌, ◌*◌, ◌/◌, ◌%◌, ◌^◌, ◌<◌, min, T, eqb}
use Rattle.std.proofs.Common.{sym, ap, ap₂, ◌∙◌, add-zero, zero-lt-suc, mod-lt, lt_of_le_of_lt, eqb→eq, pow_pos}
use Rattle.std.proofs.Math.Nat.{min-le_left}
use Rattle.std.proofs.Math.Arith.{bin_ind}
use Rattle.std.specs.Int.Bits.{bit_and, and_step}
use Rattle.std.proofs.lemmas.Nat.{xor_block}
use Rattle.counting.specs.Test.{all_below}
use Rattle.counting.specs.TestLaws.{all-at}
use Rattle.binary_field.specs.Xor.{◌⊕◌, masked}
use Rattle.binary_field.specs.XorLaws.{⊕-zero-l, ⊕-self, ⊕-shr, ⊕-mod, ⊕-half, ⊕-low, digit-cases}
use Rattle.binary_field.specs.Product.{double, bit_sum, product}
use Rattle.binary_field.specs.ProductLaws.{product-add, add-product}
use Rattle.binary_field.specs.AdditiveLaws.{Additive, sum-additive, agree}
use Rattle.wide_field.specs.CarryLess.{carry_less, quotient, multiple, reduced}

-- ---- sums, digits apart
-- a sum works on the k low digits and on the rest apart
pub ⊕-block : (k a b r s : ℕ) → r < 2 ^ k → s < 2 ^ k → (a * 2 ^ k + r) ⊕ (b * 2 ^ k + s) ≡ (a ⊕ b) * 2 ^ k + (r ⊕ s)
unfolding ◌⊕◌
⊕-block = xor_block

-- a sum shifted
⊕-shl : (k a b : ℕ) → (a ⊕ b) * 2 ^ k ≡ a * 2 ^ k ⊕ b * 2 ^ k
⊕-shl k a b =
    sym
    (ap₂ ◌⊕◌ (sym (add-zero (a * 2 ^ k))) (sym (add-zero (b * 2 ^ k))) ∙ ⊕-block k a b 0 0 (pow_pos k) (pow_pos k)
    ∙ ap (λ x. (a ⊕ b) * 2 ^ k + x) (⊕-self 0) ∙ add-zero _)

digit_and : (a b m : ℕ) → min (a % 2 ⊕ b % 2) (m % 2) ≡ min (a % 2) (m % 2) ⊕ min (b % 2) (m % 2)
unfolding ◌⊕◌
digit_and a b m =
    digit-cases (λ x. min (x ⊕ b % 2) (m % 2) ≡ min x (m % 2) ⊕ min (b % 2) (m % 2))
    (digit-cases (λ y. min (0 ⊕ y) (m % 2) ≡ min 0 (m % 2) ⊕ min y (m % 2)) (digit-cases (λ z. min (0 ⊕ 0) z ≡ min 0 z ⊕ min 0 z) refl refl m)
    (digit-cases (λ z. min (0 ⊕ 1) z ≡ min 0 z ⊕ min 1 z) refl refl m) b)
    (digit-cases (λ y. min (1 ⊕ y) (m % 2) ≡ min 1 (m % 2) ⊕ min y (m % 2)) (digit-cases (λ z. min (1 ⊕ 0) z ≡ min 1 z ⊕ min 0 z) refl refl m)
    (digit-cases (λ z. min (1 ⊕ 1) z ≡ min 1 z ⊕ min 1 z) refl refl m) b) a

-- the digits of a sum that a mask keeps
pub and-add : (a b m : ℕ) → bit_and (a ⊕ b) m ≡ bit_and a m ⊕ bit_and b m
and-add a =
    bin_ind (λ n. (b m : ℕ) → bit_and (n ⊕ b) m ≡ bit_and n m ⊕ bit_and b m) (λ b m. ap (λ x. bit_and x m) (⊕-zero-l b) ∙ sym (⊕-zero-l (bit_and b m)))
    (λ n ih b m. and_step (n ⊕ b) m
    ∙ ap₂ (λ (x y : ℕ). x * 2 + y) (ap (λ x. bit_and x (m / 2)) (⊕-half n b) ∙ ih (b / 2) (m / 2)) (ap (λ x. min x (m % 2)) (⊕-low n b) ∙ digit_and n b m)
    ∙ sym (ap₂ ◌⊕◌ (and_step n m) (and_step b m) ∙ ⊕-block 1 _ _ _ _ (low n m) (low b m))) a
  where
    low : (n m : ℕ) → min (n % 2) (m % 2) < 2
    low n m = lt_of_le_of_lt (min-le_left (n % 2) (m % 2)) (mod-lt n (zero-lt-suc 1))

-- ---- the reduction is additive
quotient-add : Additive quotient
unfolding quotient
quotient-add =
    sum-additive (λ h. h) _ (λ _ _. refl)
    (sum-additive (λ h. h / 16) _ (λ a b. ⊕-shr a b 4)
    (sum-additive (λ h. h / 256) _ (λ a b. ⊕-shr a b 8) (sum-additive (λ h. h / 4096) _ (λ a b. ⊕-shr a b 12) (λ a b. ⊕-shr a b 13))))

multiple-add : Additive multiple
unfolding multiple
multiple-add =
    sum-additive (λ q. q) _ (λ _ _. refl)
    (sum-additive (λ q. q * 2) _ (⊕-shl 1) (sum-additive (λ q. q * 8) _ (⊕-shl 3) (⊕-shl 12)))

reduced-add : Additive reduced
unfolding reduced
reduced-add a b =
    ap (λ x. x % 65536)
    (sum-additive (λ p. p) (λ p. multiple (quotient (p / 65536))) (λ _ _. refl)
    (λ x y. ap (λ h. multiple (quotient h)) (⊕-shr x y 16) ∙ ap multiple (quotient-add _ _) ∙ multiple-add _ _) a b)
    ∙ ⊕-mod _ _ 16

-- ---- the product of two powers of two
power_right : ℕ → ℕ → Bool
power_right i j = eqb (reduced (carry_less (2 ^ i) (2 ^ j))) (product 16 69643 (2 ^ i) (2 ^ j))

powers-right : T (all_below 16 (λ i. all_below 16 (power_right i)))
unfolding power_right reduced quotient multiple product bit_sum double masked ◌⊕◌
powers-right = tt

-- the product of two symbols is the carry-less product, reduced
pub reduced-product : (a b : ℕ) → a < 65536 → b < 65536 → reduced (carry_less a b) ≡ product 16 69643 a b
unfolding power_right
reduced-product a b la lb =
    agree 16 (λ x. reduced (carry_less x b)) (λ x. product 16 69643 x b) (λ x y. ap reduced (add-product 32 0 x y b) ∙ reduced-add _ _)
    (λ x y. add-product 16 69643 x y b)
    (λ i li. agree 16 (λ y. reduced (carry_less (2 ^ i) y)) (product 16 69643 (2 ^ i)) (λ x y. ap reduced (product-add 32 0 (2 ^ i) x y) ∙ reduced-add _ _)
    (product-add 16 69643 (2 ^ i))
    (λ j lj. eqb→eq _ _ (all-at 16 (power_right i) (all-at 16 (λ k. all_below 16 (power_right k)) powers-right i li) j lj)) b lb) a la
