-- Laws: Additive functions: those that take sums to sums. Two of them that agree at 1, 2, 4, .. agree.
use Rattle.std.specs.Prelude.{◌≡◌, List, [], ◌∷◌, ℕ, zero, suc, ◌*◌, ◌/◌, ◌%◌, ◌^◌, ◌<◌}
use Rattle.std.proofs.Common.{sym, ap, ap₂, ◌∙◌, subst, mod-lt, pow-suc, div-add-mod', div-lt_iff_lt-mul, zero-mul, one-mul, mod-eq_of_lt, arith, pow_pos}
use Rattle.std.proofs.Math.Arith.{lt-one}
use Rattle.binary_field.specs.Xor.{◌⊕◌, masked}
use Rattle.binary_field.specs.XorLaws.{⊕-zero-l, ⊕-self, ⊕-half, ⊕-shifted, ⊕-swap, digit-cases, masked_low}
use Rattle.binary_field.specs.Inverse.{linear_map}

abbrev pub Additive : (ℕ → ℕ) → Type 0
Additive f = (a b : ℕ) → f (a ⊕ b) ≡ f a ⊕ f b

pub sum-additive : (f g : ℕ → ℕ) → Additive f → Additive g → Additive (λ a. f a ⊕ g a)
sum-additive f g hf hg a b = ap₂ ◌⊕◌ (hf a b) (hg a b) ∙ ⊕-swap (f a) (f b) (g a) (g b)

-- a linear map is additive
pub map-add : (ts : List ℕ) → Additive (linear_map ts)
unfolding linear_map
map-add [] a b = sym (⊕-zero-l 0)
map-add (t ∷ ts) a b =
    ap₂ ◌⊕◌ (masked_low a b t) (ap (linear_map ts) (⊕-half a b) ∙ map-add ts (a / 2) (b / 2))
    ∙ ⊕-swap (masked (a % 2) t) (masked (b % 2) t) (linear_map ts (a / 2)) (linear_map ts (b / 2))

pub additive-zero : (f : ℕ → ℕ) → Additive f → f 0 ≡ 0
additive-zero f hf = ap f (sym (⊕-self 0)) ∙ hf 0 0 ∙ ⊕-self (f 0)

-- a number by its quotient and remainder
pub parts : (n i : ℕ) → 0 < 2 ^ i → n ≡ n / 2 ^ i * 2 ^ i ⊕ n % 2 ^ i
parts n i pos = sym (⊕-shifted (n / 2 ^ i) i (n % 2 ^ i) (mod-lt n pos) ∙ div-add-mod' n (2 ^ i))

pub agree : (n : ℕ) (f g : ℕ → ℕ) → Additive f → Additive g → ((i : ℕ) → i < n → f (2 ^ i) ≡ g (2 ^ i)) → (a : ℕ) → a < 2 ^ n → f a ≡ g a
agree zero f g hf hg e a h = ap f (lt-one h) ∙ additive-zero f hf ∙ sym (ap g (lt-one h) ∙ additive-zero g hg)
agree (suc n) f g hf hg e a h =
    let pos = pow_pos n in
    let l : a / 2 ^ n < 2 = (div-lt_iff_lt-mul pos).1 (let q = pow-suc 2 n in omega arith) in
    ap f (parts a n pos) ∙ hf _ _
    ∙ ap₂ ◌⊕◌
    (subst (λ d. f (d * 2 ^ n) ≡ g (d * 2 ^ n)) (mod-eq_of_lt l)
    (digit-cases (λ d. f (d * 2 ^ n) ≡ g (d * 2 ^ n))
    (ap f (zero-mul (2 ^ n)) ∙ additive-zero f hf ∙ sym (ap g (zero-mul (2 ^ n)) ∙ additive-zero g hg))
    (ap f (one-mul (2 ^ n)) ∙ e n (omega arith) ∙ sym (ap g (one-mul (2 ^ n)))) (a / 2 ^ n)))
    (agree n f g hf hg (λ i k. e i (omega arith)) (a % 2 ^ n) (mod-lt a pos))
    ∙ sym (ap g (parts a n pos) ∙ hg _ _)
