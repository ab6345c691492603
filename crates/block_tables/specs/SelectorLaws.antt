-- Laws: selectors, digit by digit.
use Rattle.std.specs.Prelude.{◌≡◌, refl, ℕ, zero, suc, ◌+◌, ◌-◌, ◌*◌, ◌/◌, ◌%◌, ◌^◌, ◌≤◌, ◌<◌, Bool, List, T, eqb, length, get_or}
use Rattle.std.proofs.Common.{sym, ap, ◌∙◌, subst, mod-lt, div-one, pow-suc, zero-lt-suc, zero-add, suc-add, le_refl, pow_pos, eqb→eq}
use Rattle.std.proofs.Math.Nat.{div-eq_of_lt, div-div-eq-div-mul}
use native.Mathlib.Omega.{arith}
use Rattle.std.proofs.Math.Arith.{digits_div, digits_mod}
use Rattle.std.proofs.Math.ListN.{get_or-eq_default}
use Rattle.counting.specs.Test.{all_below}
use Rattle.counting.specs.TestLaws.{all-at}
use Rattle.block_tables.specs.Table.{bit_at, spaced, halves, selector, selector_at}

pub bit-small : (n k : ℕ) → bit_at n k < 2
bit-small n k = mod-lt (k / 2 ^ n) (zero-lt-suc 1)

spaced-none : (k : ℕ) → spaced 0 k ≡ 0
unfolding spaced
spaced-none k = refl

pub spaced-suc : (n k : ℕ) → spaced (suc n) k ≡ spaced n k * 16 + bit_at n k
unfolding spaced
spaced-suc n k = refl

-- what is left of k after one bit more
pub bits_left : (n k : ℕ) → k / 2 ^ n / 2 ≡ k / 2 ^ suc n
bits_left n k = div-div-eq-div-mul k (2 ^ n) 2 ∙ ap (λ x. k / x) (sym (pow-suc 2 n))

pub bits-all : (k : ℕ) → k ≡ k / 2 ^ 0
bits-all k = sym (div-one k)

grown : (n k b : ℕ) → spaced n k ≤ b → spaced (suc n) k ≤ b * 16 + 1
grown n k b h = let s = spaced-suc n k in let l = bit-small n k in omega arith

-- digits of 16 that are 0 or 1: n of them
most : ℕ → ℕ
most zero = 0
most (suc n) = most n * 16 + 1

below-most : (n k : ℕ) → spaced n k ≤ most n
unfolding most
below-most zero k = let z = spaced-none k in omega arith
below-most (suc n) k = grown n k (most n) (below-most n k)

more-most : (n d : ℕ) → most n ≤ most (d + n)
unfolding most
more-most n zero = rw (zero-add n) (le_refl (most n))
more-most n (suc d) = rw (suc-add d n) (let h = more-most n d in omega arith)

spaced-most : (n k : ℕ) → n < 8 → spaced n k ≤ 17895697
unfolding most
spaced-most n k l =
    let e : 7 - n + n ≡ 7 = omega arith in
    let h : most n ≤ most 7 = subst (λ m. most n ≤ most m) e (more-most n (7 - n)) in
    let b = below-most n k in
    omega arith

pub spaced-8 : (k : ℕ) → spaced 8 k ≤ 286331153
spaced-8 k = grown 7 k 17895697 (spaced-most 7 k (omega arith))

-- a byte by its two halves, tested for all bytes
by_halves : ℕ → Bool
by_halves k = eqb (get_or halves (k % 16) 0 * 65536 + get_or halves (k / 16) 0) (spaced 8 k)

halves-rule : T (all_below 256 by_halves)
unfolding by_halves halves spaced
halves-rule = tt

pub spaced-halves : (k : ℕ) → k < 256 → get_or halves (k % 16) 0 * 65536 + get_or halves (k / 16) 0 ≡ spaced 8 k
unfolding by_halves
spaced-halves k h = eqb→eq (get_or halves (k % 16) 0 * 65536 + get_or halves (k / 16) 0) (spaced 8 k) (all-at 256 by_halves halves-rule k h)

pub spaced-of-zero : (n : ℕ) → spaced n 0 ≡ 0
unfolding spaced
spaced-of-zero zero = refl
spaced-of-zero (suc n) = ap (λ s. s * 16 + bit_at n 0) (spaced-of-zero n) ∙ zero_bit n
  where
    zero_bit : (i : ℕ) → 0 * 16 + bit_at i 0 ≡ 0
    zero_bit i = let z : 0 / 2 ^ i ≡ 0 = div-eq_of_lt (pow_pos i) in ap (λ x. 0 * 16 + x % 2) z

module _ (n a b c d : ℕ) where
  -- the lowest digit, and the others
  digits : selector (suc n) a b c d ≡ selector n a b c d * 16 + (bit_at n a + bit_at n b * 2 + bit_at n c * 4 + bit_at n d * 8)
  unfolding selector
  digits =
      let p = spaced-suc n a in
      let q = spaced-suc n b in
      let r = spaced-suc n c in
      let s = spaced-suc n d in
      omega arith

  low : bit_at n a + bit_at n b * 2 + bit_at n c * 4 + bit_at n d * 8 < 16
  low =
      let p = bit-small n a in
      let q = bit-small n b in
      let r = bit-small n c in
      let s = bit-small n d in
      omega arith

  pub selector-digit : selector (suc n) a b c d % 16 ≡ bit_at n a + bit_at n b * 2 + bit_at n c * 4 + bit_at n d * 8
  selector-digit = ap (λ x. x % 16) digits ∙ digits_mod (selector n a b c d) low

  pub selector-rest : selector (suc n) a b c d / 16 ≡ selector n a b c d
  selector-rest = ap (λ x. x / 16) digits ∙ digits_div (selector n a b c d) low

pub selector-of-zero : selector 8 0 0 0 0 ≡ 0
unfolding selector
selector-of-zero = let z = spaced-of-zero 8 in omega arith

-- past the last constant
pub selector-past : (k : List ℕ) (s : ℕ) → length k ≤ s * 4 → selector_at k s ≡ 0
unfolding selector_at
selector-past k s l =
    four (get_or-eq_default k 0 l) (get_or-eq_default k 0 l1) (get_or-eq_default k 0 l2) (get_or-eq_default k 0 l3) ∙ selector-of-zero
  where
    l1 : length k ≤ s * 4 + 1
    l1 = omega arith

    l2 : length k ≤ s * 4 + 2
    l2 = omega arith

    l3 : length k ≤ s * 4 + 3
    l3 = omega arith

    four : {a b c d : ℕ} → a ≡ 0 → b ≡ 0 → c ≡ 0 → d ≡ 0 → selector 8 a b c d ≡ selector 8 0 0 0 0
    four ea eb ec ed = cc
