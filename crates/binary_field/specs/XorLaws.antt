-- Laws: Exclusive or, the sum of the field, and a number masked by a digit. Every law holds of all numbers.
use Rattle.std.specs.Prelude.{◌≡◌, refl, ℕ, zero, suc, ◌+◌, ◌*◌, ◌/◌, ◌%◌, ◌^◌, ◌<◌}
use Rattle.std.proofs.Common.{sym, ap, ap₂, ◌∙◌, mod-lt, div-add-mod', zero-lt-suc, not-suc-le-zero, le_of_suc-le-suc, add-zero, arith}
use Rattle.std.proofs.Math.Arith.{bin_ind}
use Rattle.std.specs.Int.Bits.{bit_xor, xor_zero_r, xor_self, xor_shifted}
use Rattle.std.proofs.lemmas.Nat.{xor_comm, xor_lt, xor_shr, xor_mod, xor_block}
use Rattle.binary_field.specs.Xor.{◌⊕◌, masked}

-- the machine's exclusive or
pub ⊕-bits : (a b : ℕ) → bit_xor a b ≡ a ⊕ b
unfolding ◌⊕◌
⊕-bits a b = refl

pub ⊕-zero-l : (a : ℕ) → 0 ⊕ a ≡ a
unfolding ◌⊕◌
⊕-zero-l a = refl

pub ⊕-zero-r : (a : ℕ) → a ⊕ 0 ≡ a
unfolding ◌⊕◌
⊕-zero-r = xor_zero_r

pub ⊕-comm : (a b : ℕ) → a ⊕ b ≡ b ⊕ a
unfolding ◌⊕◌
⊕-comm = xor_comm

pub ⊕-self : (a : ℕ) → a ⊕ a ≡ 0
unfolding ◌⊕◌
⊕-self = xor_self

pub ⊕-lt : (k a b : ℕ) → a < 2 ^ k → b < 2 ^ k → a ⊕ b < 2 ^ k
unfolding ◌⊕◌
⊕-lt = xor_lt

pub ⊕-shr : (a b k : ℕ) → (a ⊕ b) / 2 ^ k ≡ a / 2 ^ k ⊕ b / 2 ^ k
unfolding ◌⊕◌
⊕-shr = xor_shr

pub ⊕-mod : (a b k : ℕ) → (a ⊕ b) % 2 ^ k ≡ a % 2 ^ k ⊕ b % 2 ^ k
unfolding ◌⊕◌
⊕-mod = xor_mod

-- digits that do not overlap add
pub ⊕-shifted : (a k b : ℕ) → b < 2 ^ k → a * 2 ^ k ⊕ b ≡ a * 2 ^ k + b
unfolding ◌⊕◌
⊕-shifted = xor_shifted

pub ⊕-half : (a b : ℕ) → (a ⊕ b) / 2 ≡ a / 2 ⊕ b / 2
⊕-half a b = ⊕-shr a b 1

pub ⊕-low : (a b : ℕ) → (a ⊕ b) % 2 ≡ a % 2 ⊕ b % 2
⊕-low a b = ⊕-mod a b 1

pub ⊕-twice : (a b : ℕ) → (a ⊕ b) * 2 ≡ a * 2 ⊕ b * 2
unfolding ◌⊕◌
⊕-twice a b =
    sym
    (ap₂ bit_xor (sym (add-zero (a * 2))) (sym (add-zero (b * 2))) ∙ xor_block 1 a b 0 0 (zero-lt-suc 1) (zero-lt-suc 1) ∙ add-zero (bit_xor a b * 2))

-- a digit is 0 or 1
pub digit-cases : (P : ℕ → Type 0) → P 0 → P 1 → (n : ℕ) → P (n % 2)
digit-cases P p q n = go (n % 2) (mod-lt n (zero-lt-suc 1))
  where
    go : (x : ℕ) → x < 2 → P x
    go zero h = p
    go (suc zero) h = q
    go (suc (suc x)) h = absurd (not-suc-le-zero (le_of_suc-le-suc (le_of_suc-le-suc h)))

same_digits : {x y : ℕ} → x / 2 ≡ y / 2 → x % 2 ≡ y % 2 → x ≡ y
same_digits {x} {y} p q = sym (div-add-mod' x 2) ∙ ap₂ (λ (a b : ℕ). a * 2 + b) p q ∙ div-add-mod' y 2

digit_assoc : (a b c : ℕ) → (a % 2 ⊕ b % 2) ⊕ c % 2 ≡ a % 2 ⊕ (b % 2 ⊕ c % 2)
unfolding ◌⊕◌
digit_assoc a b c =
    digit-cases (λ x. (x ⊕ b % 2) ⊕ c % 2 ≡ x ⊕ (b % 2 ⊕ c % 2)) refl
    (digit-cases (λ y. (1 ⊕ y) ⊕ c % 2 ≡ 1 ⊕ (y ⊕ c % 2)) refl (digit-cases (λ z. (1 ⊕ 1) ⊕ z ≡ 1 ⊕ (1 ⊕ z)) refl refl c) b) a

pub ⊕-assoc : (a b c : ℕ) → (a ⊕ b) ⊕ c ≡ a ⊕ (b ⊕ c)
⊕-assoc a =
    bin_ind (λ n. (b c : ℕ) → (n ⊕ b) ⊕ c ≡ n ⊕ (b ⊕ c)) (λ b c. ap (λ x. x ⊕ c) (⊕-zero-l b) ∙ sym (⊕-zero-l (b ⊕ c)))
    (λ n ih b c. same_digits
    (⊕-half (n ⊕ b) c ∙ ap (λ x. x ⊕ c / 2) (⊕-half n b) ∙ ih (b / 2) (c / 2) ∙ sym (⊕-half n (b ⊕ c) ∙ ap (λ x. n / 2 ⊕ x) (⊕-half b c)))
    (⊕-low (n ⊕ b) c ∙ ap (λ x. x ⊕ c % 2) (⊕-low n b) ∙ digit_assoc n b c ∙ sym (⊕-low n (b ⊕ c) ∙ ap (λ x. n % 2 ⊕ x) (⊕-low b c)))) a

pub ⊕-left-comm : (a b c : ℕ) → a ⊕ (b ⊕ c) ≡ b ⊕ (a ⊕ c)
⊕-left-comm a b c = sym (⊕-assoc a b c) ∙ ap (λ x. x ⊕ c) (⊕-comm a b) ∙ ⊕-assoc b a c

pub ⊕-self-left : (a b : ℕ) → a ⊕ (a ⊕ b) ≡ b
⊕-self-left a b = sym (⊕-assoc a a b) ∙ ap (λ x. x ⊕ b) (⊕-self a) ∙ ⊕-zero-l b

-- decides equations of sums
pub ruleset sums = (⊕-assoc, ⊕-comm, ⊕-left-comm, ⊕-zero-l, ⊕-zero-r, ⊕-self, ⊕-self-left)

pub ⊕-swap : (a b c d : ℕ) → (a ⊕ b) ⊕ (c ⊕ d) ≡ (a ⊕ c) ⊕ (b ⊕ d)
⊕-swap a b c d = simp sums

-- a sum is 0 only of equals
pub ⊕-cancel : {a b : ℕ} → a ⊕ b ≡ 0 → a ≡ b
⊕-cancel {a} {b} e = sym (⊕-self-left b a) ∙ ap (λ x. b ⊕ x) (⊕-comm b a ∙ e) ∙ ⊕-zero-r b

pub masked-zero : (d : ℕ) → masked d 0 ≡ 0
unfolding masked
masked-zero zero = refl
masked-zero (suc d) = refl

pub masked-lt : (d a m : ℕ) → a < m → masked d a < m
unfolding masked
masked-lt zero a m h = omega arith
masked-lt (suc d) a m h = h

pub masked-add : (d a b : ℕ) → masked d (a ⊕ b) ≡ masked d a ⊕ masked d b
unfolding masked
masked-add zero a b = sym (⊕-self 0)
masked-add (suc d) a b = refl

-- a mask by the lowest digit of a sum
pub masked_low : (a b x : ℕ) → masked ((a ⊕ b) % 2) x ≡ masked (a % 2) x ⊕ masked (b % 2) x
unfolding masked ◌⊕◌
masked_low a b x =
    ap (λ d. masked d x) (⊕-low a b)
    ∙ digit-cases (λ d. masked (d ⊕ b % 2) x ≡ masked d x ⊕ masked (b % 2) x) refl
    (digit-cases (λ e. masked (1 ⊕ e) x ≡ x ⊕ masked e x) (sym (xor_zero_r x)) (sym (xor_self x)) b) a

-- a map that takes 0 to 0 goes through the mask
pub masked-map : (f : ℕ → ℕ) → f 0 ≡ 0 → (d a : ℕ) → f (masked d a) ≡ masked d (f a)
unfolding masked
masked-map f h zero a = h
masked-map f h (suc d) a = refl
