-- Laws: The power sums of a group's stretch.
use Rattle.std.specs.Prelude.{◌≡◌, refl, Bool, true, false, ◌&&◌, List, [], ◌∷◌, ℕ, zero, suc, ◌+◌, ◌*◌, ◌^◌, ◌<◌, ◌≤◌, length, get_or}
use Rattle.std.proofs.Common.{sym, ◌∙◌, subst, add-one, arith, lit<}
use Rattle.std.proofs.Math.Path.{ap, ap₂}
use Rattle.std.proofs.Math.Dec.{eqb}
use Rattle.counting.specs.Test.{all_below}
use Rattle.binary_field.specs.Xor.{◌⊕◌, masked}
use Rattle.binary_field.specs.Product.{double, bit_sum, product}
use Rattle.binary_field.specs.ProductLaws.{product-assoc, product-comm, product-left-comm, product-one, product-add}
use Rattle.binary_field.specs.Power.{power}
use Rattle.binary_field.specs.PowerLaws.{power_zero, power-suc, power-swap, product-power, frobenius}
use Rattle.binary_field.specs.Sum.{sum_below}
use Rattle.binary_field.specs.SumLaws.{sum-ext, sum-add, sum-scale}
use Rattle.code.specs.Edition.{Edition, Sound, times, raised}
use Rattle.code.specs.Word.{group_sum, local_sum, coefficient, second_coefficient, is_local}
use Rattle.code.specs.StretchLaws.{own-place}
use Rattle.wide_shape.specs.Edition.{wide_edition}
use Rattle.wide_shape.specs.EditionLaws.{wide-sound}
use Rattle.code_engine.specs.PartsLaws.{second-coefficient-group}
use Rattle.wide_sums.specs.PowerSums.{PowerSums, EachTimes, IsRow, Raised}

pub raised-none : (part : List ℕ) → ((j : ℕ) → get_or part j 0 < 65536) → Raised 0 part part
raised-none part small = record {
  size = refl;
  each = λ j _. sym (ap (times wide_edition (get_or part j 0)) (power_zero 16 69643 _) ∙ product-one 16 69643 (lit< tt) (get_or part j 0) (small j));
}

pub raised-next : {e : ℕ} {part x row y : List ℕ} → Raised e part x → IsRow (length part) row → EachTimes x row y → Raised (suc e) part y
raised-next {e} {part} {x} {row} R I T = record {
  size = T.size ∙ R.size;
  each = λ j l.
      T.each j (subst (λ n. j < n) (sym R.size) l) ∙ ap₂ (times wide_edition) (R.each j l) (I j l) ∙ product-assoc 16 69643 (get_or part j 0) _ _
      ∙ ap (times wide_edition (get_or part j 0)) (product-comm 16 69643 (raised wide_edition (wide_edition.locator j) e) (wide_edition.locator j)
      ∙ sym (power-suc 16 69643 (wide_edition.locator j) e));
}

-- the symbols of such a stretch add up to a power sum
pub raised-sum : {e : ℕ} {part x : List ℕ} → Raised e part x → sum_below (length x) (λ i. get_or x i 0) ≡ local_sum wide_edition (length part) part 0 e
unfolding group_sum
raised-sum {e} {part} {x} R =
    ap (λ n. sum_below n (λ i. get_or x i 0)) R.size
    ∙ sum-ext (length part) _ _ (λ j l. R.each j l ∙ ap (λ p. times wide_edition (get_or part p 0) (raised wide_edition (wide_edition.locator j) e))
    (sym (own-place (length part) j)))

-- ---- a group's share of the sums across, in any sound edition
module _ {E : Edition} (S : Sound E) (w : ℕ) (narrow : w ≤ E.small) (c : ℕ) (part : List ℕ) where
  -- a sum of the form x·(h + f·k)
  two-parts : (f : ℕ) (h k : ℕ → ℕ) → group_sum E w part 0 (λ j. h j ⊕ times E f (k j)) ≡ group_sum E w part 0 h ⊕ times E f (group_sum E w part 0 k)
  unfolding group_sum
  two-parts f h k =
      sum-ext w _ _ (λ j _. product-add E.bits E.poly (get_or part (0 * w + j) 0) (h j) (times E f (k j))
      ∙ ap (λ s. times E (get_or part (0 * w + j) 0) (h j) ⊕ s) (product-left-comm E.bits E.poly (get_or part (0 * w + j) 0) f (k j)))
      ∙ sum-add w _ _ ∙ ap (λ s. sum_below w (λ j. times E (get_or part (0 * w + j) 0) (h j)) ⊕ s) (sum-scale E.bits E.poly w f _)

  -- the sum of byte·b: P_c + 2·P_(c+1)
  pub first-share : group_sum E w part 0 (coefficient E c) ≡ local_sum E w part 0 c ⊕ times E 2 (local_sum E w part 0 (suc c))
  unfolding coefficient
  first-share = two-parts 2 _ _

  -- b^q = a^c + 2^q·a^(c+1), since a^q = a
  power-fixed : (j e : ℕ) → j < w → raised E (raised E (E.locator j) e) E.small ≡ raised E (E.locator j) e
  power-fixed j e l =
      power-swap E.bits E.poly S.facts.pos (E.locator j) e E.small ∙ ap (λ a. raised E a e) (S.locator-fixed j (omega arith))

  pub second-coefficient-at : (j : ℕ) → j < w → raised E (coefficient E c j) E.small
      ≡ raised E (E.locator j) c ⊕ times E (raised E 2 E.small) (raised E (E.locator j) (suc c))
  unfolding coefficient
  second-coefficient-at j l =
      let size : E.small ≡ 2 ^ S.facts.half_digits = S.small_is ∙ S.facts.size in
      ap (raised E (raised E (E.locator j) c ⊕ times E 2 (raised E (E.locator j) (suc c)))) size
      ∙ frobenius E.bits E.poly S.facts.pos _ _ S.facts.half_digits
      ∙ ap₂ ◌⊕◌ (ap (raised E (raised E (E.locator j) c)) (sym size) ∙ power-fixed j c l)
      (ap (raised E (times E 2 (raised E (E.locator j) (suc c)))) (sym size) ∙ product-power E.bits E.poly S.facts.pos 2 _ E.small
      ∙ ap (times E (raised E 2 E.small)) (power-fixed j (suc c) l))

  same-coefficients : group_sum E w part 0 (λ j. raised E (coefficient E c j) E.small)
      ≡ group_sum E w part 0 (λ j. raised E (E.locator j) c ⊕ times E (raised E 2 E.small) (raised E (E.locator j) (suc c)))
  unfolding group_sum
  same-coefficients = sum-ext w _ _ (λ j l. ap (times E (get_or part (0 * w + j) 0)) (second-coefficient-at j l))

  -- the same with b^q: P_c + 2^q·P_(c+1)
  pub second-share : group_sum E w part 0 (λ j. raised E (coefficient E c j) E.small)
      ≡ local_sum E w part 0 c ⊕ times E (raised E 2 E.small) (local_sum E w part 0 (suc c))
  second-share = same-coefficients ∙ two-parts (raised E 2 E.small) _ _

-- two tests that agree below n
all_same : (n : ℕ) (f g : ℕ → Bool) → ((i : ℕ) → i < n → f i ≡ g i) → all_below n f ≡ all_below n g
all_same zero f g h = refl
all_same (suc n) f g h = ap₂ ◌&&◌ (h n (omega arith)) (all_same n f g (λ i l. h i (omega arith)))

-- ---- from the power sums of a stretch of the sixteen-bit edition
pub two-small : power 16 69643 2 256 ≡ 2863
unfolding power product bit_sum double masked ◌⊕◌
two-small = refl

module _ (part sums : List ℕ) (c n : ℕ) (P : PowerSums part n sums) where
  -- the test of its own equations
  pub sums-local : c ≤ n → all_below c (λ e. eqb (get_or sums e 0) 0) ≡ is_local wide_edition (length part) c part 0
  unfolding is_local
  sums-local l = all_same c _ _ (λ e h. ap (λ s. eqb s 0) (P e (omega arith)))

  -- its share of the two sums across
  module _ (narrow : length part ≤ 256) (room : c + 2 ≤ n) where
    upper : get_or sums (c + 1) 0 ≡ local_sum wide_edition (length part) part 0 (suc c)
    upper = P (c + 1) (omega arith) ∙ ap (local_sum wide_edition (length part) part 0) (add-one c)

    pub sums_first : get_or sums c 0 ⊕ product 16 69643 2 (get_or sums (c + 1) 0) ≡ group_sum wide_edition (length part) part 0 (coefficient wide_edition c)
    sums_first = ap₂ (λ p q. p ⊕ product 16 69643 2 q) (P c (omega arith)) upper ∙ sym (first-share wide-sound (length part) narrow c part)

    pub sums-second : get_or sums c 0 ⊕ product 16 69643 2863 (get_or sums (c + 1) 0)
        ≡ group_sum wide_edition (length part) part 0 (λ j. raised wide_edition (coefficient wide_edition c j) 256)
    sums-second =
        ap₂ (λ p q. p ⊕ product 16 69643 2863 q) (P c (omega arith)) upper
        ∙ ap (λ t. local_sum wide_edition (length part) part 0 c ⊕ product 16 69643 t (local_sum wide_edition (length part) part 0 (suc c))) (sym two-small)
        ∙ sym (second-share wide-sound (length part) narrow c part)

    -- the second times 2^g
    pub sums-weighted : (g weight s : ℕ) → weight ≡ raised wide_edition 2 g → s ≡ get_or sums c 0 ⊕ product 16 69643 2863 (get_or sums (c + 1) 0)
        → product 16 69643 weight s ≡ group_sum wide_edition (length part) part 0 (second_coefficient wide_edition c g)
    sums-weighted g weight s e f =
        ap₂ (product 16 69643) e (f ∙ sums-second) ∙ second-coefficient-group wide_edition (length part) c g part

-- the first power sum is the plain sum
pub first_alone : (part : List ℕ) (s n : ℕ) → ((j : ℕ) → get_or part j 0 < 65536) → s ≡ sum_below (length part) (λ i. get_or part i 0) → n ≡ 1
    → PowerSums part n (s ∷ 0 ∷ 0 ∷ 0 ∷ 0 ∷ 0 ∷ [])
first_alone part s n small e h zero l = e ∙ raised-sum (raised-none part small)
first_alone part s n small e h (suc k) l = absurd (omega arith)

-- with one local equation the plain sum decides
pub sum-local : (part : List ℕ) (s c : ℕ) → ((j : ℕ) → get_or part j 0 < 65536) → s ≡ sum_below (length part) (λ i. get_or part i 0) → c ≡ 1
    → eqb s 0 ≡ is_local wide_edition (length part) c part 0
sum-local part s c small e h =
    sym (ap (λ n. all_below n (λ i. eqb (get_or (s ∷ 0 ∷ 0 ∷ 0 ∷ 0 ∷ 0 ∷ []) i 0) 0)) h ∙ and-true (eqb s 0))
    ∙ sums-local part (s ∷ 0 ∷ 0 ∷ 0 ∷ 0 ∷ 0 ∷ []) c c (first_alone part s c small e h) (omega arith)
  where
    and-true : (b : Bool) → (b && true) ≡ b
    and-true true = refl
    and-true false = refl
