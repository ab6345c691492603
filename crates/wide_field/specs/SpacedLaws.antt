-- Laws: Numbers whose binary digits stand three places apart: the digits to the base 8 of such a number are 0 and 1. In the integer product
-- of two of them, one of at most seven digits, no digit to the base 8 carries, and their last binary digits are the carry-less product.
use Rattle.std.specs.Prelude.{◌≡◌, refl, ℕ, zero, suc, ◌+◌, ◌*◌, ◌/◌, ◌%◌, ◌^◌, ◌<◌, ◌≤◌}
use Rattle.std.proofs.Common.{sym, ap, ap₂, ◌∙◌, subst, zero-le, add-zero, zero-add, mod-lt, div-add-mod', pow-suc, mul_assoc, mul-add, mul-one, mul-zero, mod-eq_of_lt, le_trans, le_of_suc-le-suc, lt_of_lt_of_le, lt_of_le_of_lt, mul-le-mul, mul-le-mul_right, le-mul_of_pos_right, lt_of_mul-lt-mul_right, arith, lit<, pow_pos, pow-add}
use Rattle.std.proofs.Math.Nat.{mod-mod, mul-mul-mul_comm, add-mod}
use Rattle.std.specs.Int.Bits.{bit_and, and_zero_r}
use Rattle.std.proofs.lemmas.Nat.{and_block, and_mask, and_comm, and_le_r}
use Rattle.std.proofs.Math.Pow.{pow-lt, split}
use Rattle.binary_field.specs.Xor.{◌⊕◌}
use Rattle.binary_field.specs.XorLaws.{⊕-zero-l, ⊕-zero-r, ⊕-shifted, digit-cases}
use Rattle.binary_field.specs.Product.{double}
use Rattle.binary_field.specs.ProductLaws.{double-low, double-product, product-comm, product-left-comm, product-add}
use Rattle.binary_field.specs.ProductLaws.{product-zero, product-one, one_product, ring}
use Rattle.wide_field.specs.CarryLess.{carry_less}
use Rattle.wide_field.specs.CarryLessLaws.{⊕-block}
use Rattle.wide_field.specs.Spaced.{spaced, Parities, none, more}

-- ---- masks
and_one : (d : ℕ) → bit_and d 1 ≡ d % 2
and_one d = and_mask d 1

-- one digit more
spaced-suc : (n y : ℕ) → bit_and y (spaced (suc n)) ≡ bit_and (y / 8) (spaced n) * 8 + y % 8 % 2
spaced-suc n y =
    ap (λ x. bit_and x (spaced n * 8 + 1)) (sym (split y 3)) ∙ and_block 3 (y / 8) (spaced n) (y % 8) 1 (mod-lt y (lit< tt)) (lit< tt)
    ∙ ap (λ d. bit_and (y / 8) (spaced n) * 8 + d) (and_one (y % 8))

-- a mask shifted
and-shl : (x m i : ℕ) → bit_and x (m * 2 ^ i) ≡ bit_and (x / 2 ^ i) m * 2 ^ i
and-shl x m i =
    ap₂ bit_and (sym (split x i)) (sym (add-zero (m * 2 ^ i))) ∙ and_block i (x / 2 ^ i) m (x % 2 ^ i) 0 (mod-lt x (pow_pos i)) (pow_pos i)
    ∙ ap (λ d. bit_and (x / 2 ^ i) m * 2 ^ i + d) (and_zero_r (x % 2 ^ i)) ∙ add-zero _

-- a number shifted
shl-and : (z m e : ℕ) → bit_and (z * 2 ^ e) m ≡ bit_and z (m / 2 ^ e) * 2 ^ e
shl-and z m e = and_comm (z * 2 ^ e) m ∙ and-shl m z e ∙ ap (λ x. x * 2 ^ e) (and_comm (m / 2 ^ e) z)

-- ---- digits to the base 8
-- by equations of both numbers
same : {k z w c e : ℕ} → z ≡ w → c ≡ e → Parities k z c → Parities k w e
same {k} {z} {w} {c} {e} p q t = subst (λ x. Parities k x e) p (subst (λ x. Parities k z x) q t)

-- a larger bound
raise : {k l z c : ℕ} → k ≤ l → Parities k z c → Parities l z c
raise h none = none
raise h (more d g t) = more d (le_trans g h) (raise h t)

-- c is at most z
parities-le : {k z c : ℕ} → Parities k z c → c ≤ z
parities-le none = zero-le
parities-le (more d g t) = let l = parities-le t in let m = div-add-mod' d 2 in omega arith

-- the last binary digit of a sum
digit-sum : (d e : ℕ) → d % 2 ⊕ e % 2 ≡ (d + e) % 2
unfolding ◌⊕◌
digit-sum d e =
    digit-cases (λ x. x ⊕ e % 2 ≡ (x + e % 2) % 2) (digit-cases (λ y. 0 ⊕ y ≡ (0 + y) % 2) refl refl e)
    (digit-cases (λ y. 1 ⊕ y ≡ (1 + y) % 2) refl refl e) d
    ∙ sym (add-mod d e 2)

-- the digits add, and their last binary digits add without carry
sum-parities : {k l z w c e : ℕ} → Parities k z c → Parities l w e → Parities (k + l) (z + w) (c ⊕ e)
sum-parities {k} {l} {e = e} none t = same (sym (zero-add _)) (sym (⊕-zero-l e)) (raise (omega arith) t)
sum-parities (more d g t) none = same (sym (add-zero _)) (sym (⊕-zero-r _)) (raise (omega arith) (more d g t))
sum-parities (more {z} {c} d g t) (more {z = w} {c = e} b h u) =
    same (omega arith) (sym (⊕-block 3 c e (d % 2) (b % 2) (low d) (low b) ∙ ap (λ x. (c ⊕ e) * 8 + x) (digit-sum d b)))
    (more (d + b) (omega arith) (sum-parities t u))
  where
    low : (n : ℕ) → n % 2 < 8
    low n = let l : n % 2 < 2 = mod-lt n (lit< tt) in omega arith

-- below 8 no digit carries: a mask keeps the last binary digits
mask-parities : {k z c : ℕ} → Parities k z c → k ≤ 7 → (n : ℕ) → z < 8 ^ n → bit_and z (spaced n) ≡ c
mask-parities {k} {z} {c} t h zero l = and_zero_r z ∙ (let m = parities-le t in omega arith)
mask-parities none h (suc n) l = refl
mask-parities (more {z} d g t) h (suc n) l =
    and_block 3 z (spaced n) d 1 (omega arith) (lit< tt)
    ∙ ap₂ (λ (x y : ℕ). x * 8 + y) (mask-parities {z = z} t h n (let q = pow-suc 8 n in omega arith)) (and_one d)

-- what a mask of spaced digits keeps has the digits 0 and 1
spaced-parities : (n x : ℕ) → Parities 1 (bit_and x (spaced n)) (bit_and x (spaced n))
spaced-parities zero x = same (sym (and_zero_r x)) (sym (and_zero_r x)) none
spaced-parities (suc n) x =
    let e = spaced-suc n x in
    same (sym e) (ap (λ d. bit_and (x / 8) (spaced n) * 8 + d) (mod-mod (x % 8) 2) ∙ sym e)
    (more (x % 8 % 2) (le_of_suc-le-suc (mod-lt (x % 8) (lit< tt))) (spaced-parities n (x / 8)))

-- ---- products
-- a shift is a product
shl-product : (i z : ℕ) → i < 32 → z * 2 ^ i < 4294967296 → z * 2 ^ i ≡ carry_less (2 ^ i) z
shl-product zero z h l = mul-one z ∙ sym (one_product 32 0 (lit< tt) z ∙ mod-eq_of_lt (subst (λ x. x < 4294967296) (mul-one z) l))
shl-product (suc i) z h l =
    let e : z * 2 ^ suc i ≡ z * 2 ^ i * 2 = ap (λ x. z * x) (pow-suc 2 i) ∙ sym (mul_assoc z (2 ^ i) 2) in
    let b : z * 2 ^ i * 2 < 4294967296 = omega arith in
    e ∙ sym (double-low 32 0 (z * 2 ^ i) b) ∙ ap (double 32 0) (shl-product i z (omega arith) (omega arith))
    ∙ sym (double-product 32 0 (2 ^ i) z (pow-lt {j = 32} (omega arith)))
    ∙ ap (λ x. carry_less x z) (double-low 32 0 (2 ^ i) (subst (λ x. x < 4294967296) (pow-suc 2 i) (pow-lt h)) ∙ sym (pow-suc 2 i))

-- one digit more to the base 8
product-eight : (c p d : ℕ) → d < 8 → p * 8 < 4294967296 → carry_less c p * 8 < 4294967296
    → carry_less c (p * 8 + d) ≡ (carry_less c p * 8 + 0) ⊕ carry_less c d
product-eight c p d h l b =
    ap (carry_less c) (sym (⊕-shifted p 3 d h)) ∙ product-add 32 0 c (p * 8) d
    ∙ ap (λ x. x ⊕ carry_less c d)
    (ap (carry_less c) (shl-product 3 p (lit< tt) l) ∙ product-left-comm 32 0 c 8 p ∙ sym (shl-product 3 (carry_less c p) (lit< tt) b) ∙ sym (add-zero _))

-- by one binary digit
digit-parities : {s c : ℕ} → s < 4294967296 → Parities 1 s c → (y : ℕ) → Parities 1 (s * (y % 2)) (carry_less c (y % 2))
digit-parities {s} {c} h t y =
    digit-cases (λ d. Parities 1 (s * d) (carry_less c d)) (same (sym (mul-zero s)) (sym (product-zero 32 0 c)) none)
    (same (sym (mul-one s)) (sym (product-one 32 0 (lit< tt) c (lt_of_le_of_lt (parities-le t) h))) t) y

-- n digits of one factor: a digit of the product is a sum of n digits at most
product-parities : (n y : ℕ) {s c : ℕ} → s < 65536 → bit_and y (spaced n) < 65536 → Parities 1 s c
    → Parities n (s * bit_and y (spaced n)) (carry_less c (bit_and y (spaced n)))
product-parities zero y {s} {c} ls lt t =
    same (sym (ap (λ x. s * x) (and_zero_r y) ∙ mul-zero s)) (sym (ap (carry_less c) (and_zero_r y) ∙ product-zero 32 0 c)) none
product-parities (suc n) y {s} {c} ls lt t =
    let p : ℕ = bit_and (y / 8) (spaced n) in
    let d : ℕ = y % 8 % 2 in
    let e : bit_and y (spaced (suc n)) ≡ p * 8 + d = spaced-suc n y in
    let lp : p ≤ 8191 = omega arith in
    let q = product-parities n (y / 8) ls (omega arith) t in
    let b : s * p ≤ 65535 * 8191 = mul-le-mul {n₂ = 65535} (omega arith) lp in
    let m = parities-le q in
    let ld : d < 2 = mod-lt (y % 8) (lit< tt) in
    same (sym (ap (λ x. s * x) e ∙ mul-add s (p * 8) d ∙ ap (λ x. x + s * d) (sym (add-zero _ ∙ mul_assoc s p 8))))
    (sym (ap (carry_less c) e ∙ product-eight c p d (omega arith) (omega arith) (omega arith)))
    (raise (omega arith) (sum-parities (more 0 zero-le q) (digit-parities (omega arith) t (y % 8))))

-- the two factors shifted
factors-shifted : (s t k i j l m : ℕ) → Parities k (s * t) (carry_less s t) → k ≤ 7 → i + j < 32 → m / 2 ^ (i + j) ≡ spaced l
    → s * 2 ^ i < 65536 → t * 2 ^ j < 65536 → 4294967296 ≤ 8 ^ l * 2 ^ (i + j) → bit_and (s * 2 ^ i * (t * 2 ^ j)) m ≡ carry_less (s * 2 ^ i) (t * 2 ^ j)
factors-shifted s t k i j l m q h lij e ls lt b =
    let z : s * 2 ^ i * (t * 2 ^ j) ≡ s * t * 2 ^ (i + j) = mul-mul-mul_comm s (2 ^ i) t (2 ^ j) ∙ ap (λ x. s * t * x) (sym (pow-add 2 i j)) in
    let w : s * 2 ^ i * (t * 2 ^ j) ≤ 65535 * 65535 = mul-le-mul {n₂ = 65535} {m₂ = 65535} (omega arith) (omega arith) in
    let lz : s * t * 2 ^ (i + j) < 4294967296 = omega arith in
    let lc : carry_less s t * 2 ^ (i + j) < 4294967296 = lt_of_le_of_lt (mul-le-mul_right (2 ^ (i + j)) (parities-le q)) lz in
    let p : 2 ^ (i + j) ≡ carry_less (2 ^ i) (2 ^ j) =
    pow-add 2 i j ∙ shl-product j (2 ^ i) (omega arith) (subst (λ x. x < 4294967296) (pow-add 2 i j) (pow-lt lij)) ∙ product-comm 32 0 (2 ^ j) (2 ^ i) in
    ap (λ x. bit_and x m) z ∙ shl-and (s * t) m (i + j)
    ∙ ap (λ x. x * 2 ^ (i + j)) (ap (bit_and (s * t)) e ∙ mask-parities q h l (lt_of_mul-lt-mul_right (2 ^ (i + j)) (lt_of_lt_of_le lz b)))
    ∙ shl-product (i + j) (carry_less s t) lij lc ∙ ap (λ x. carry_less x (carry_less s t)) p ∙ regroup (2 ^ i) (2 ^ j) s t
    ∙ sym (ap₂ carry_less (shl-product i s (omega arith) (omega arith)) (shl-product j t (omega arith) (omega arith)))
  where
    regroup : (a b x y : ℕ) → carry_less (carry_less a b) (carry_less x y) ≡ carry_less (carry_less a x) (carry_less b y)
    regroup a b x y = simp ring

-- the product of two numbers with digits three places apart, from the places i and j on: the mask m keeps the carry-less product
pub spaced-product : (x y i j n k l m : ℕ) → k ≤ 7 → i + j < 32 → m / 2 ^ (i + j) ≡ spaced l → spaced n * 2 ^ i < 65536 → spaced k * 2 ^ j < 65536
    → 4294967296 ≤ 8 ^ l * 2 ^ (i + j)
    → bit_and (bit_and x (spaced n * 2 ^ i) * bit_and y (spaced k * 2 ^ j)) m ≡ carry_less (bit_and x (spaced n * 2 ^ i)) (bit_and y (spaced k * 2 ^ j))
spaced-product x y i j n k l m h lij e ln lk b =
    let s : ℕ = bit_and (x / 2 ^ i) (spaced n) in
    let t : ℕ = bit_and (y / 2 ^ j) (spaced k) in
    let ex : bit_and x (spaced n * 2 ^ i) ≡ s * 2 ^ i = and-shl x (spaced n) i in
    let ey : bit_and y (spaced k * 2 ^ j) ≡ t * 2 ^ j = and-shl y (spaced k) j in
    let ls : s * 2 ^ i < 65536 = subst (λ z. z < 65536) ex (lt_of_le_of_lt (and_le_r x (spaced n * 2 ^ i)) ln) in
    let lt : t * 2 ^ j < 65536 = subst (λ z. z < 65536) ey (lt_of_le_of_lt (and_le_r y (spaced k * 2 ^ j)) lk) in
    let q = product-parities k (y / 2 ^ j) (unshifted s i ls) (unshifted t j lt) (spaced-parities n (x / 2 ^ i)) in
    ap (λ z. bit_and z m) (ap₂ ◌*◌ ex ey) ∙ factors-shifted s t k i j l m q h lij e ls lt b ∙ sym (ap₂ carry_less ex ey)
  where
    unshifted : (s i : ℕ) → s * 2 ^ i < 65536 → s < 65536
    unshifted s i h = lt_of_le_of_lt (le-mul_of_pos_right s (pow_pos i)) h
