-- Laws: Numbers of k binary digits as polynomials over two elements, modulo a polynomial of degree k that is given by the number m.
-- What has more digits is reduced to its last k first, so the laws of sum and product hold of all numbers.
use Rattle.std.specs.Prelude.{◌≡◌}
use Rattle.std.proofs.Math.Path.{refl, sym, ap, ap₂}
use Rattle.std.proofs.Common.{◌∙◌, subst, div-add-mod', zero-lt-suc, zero-add, add-mul, pow-suc, one-mul, mul-one, div-lt_iff_lt-mul, le_refl, arith, pow_pos}
use Prim.Native.Nat.{ℕ, zero, suc, ◌+◌, ◌*◌, ◌/◌, ◌%◌, ◌^◌, ◌<◌}
use Rattle.std.proofs.Math.Nat
use Rattle.std.proofs.Math.Nat.{mod-lt, zero-mul, mod-eq_of_lt, div-eq_of_lt, mod-mod}
use Rattle.std.proofs.Math.Arith.{lt-one}
use Rattle.std.proofs.Math.Pow.{pow-lt}
use Rattle.binary_field.specs.Xor.{◌⊕◌, masked}
use Rattle.binary_field.specs.XorLaws.{⊕-zero-l, ⊕-zero-r, ⊕-comm, ⊕-self, ⊕-lt, ⊕-shr, ⊕-mod, ⊕-shifted, ⊕-half, ⊕-twice, ⊕-assoc, ⊕-swap, sums}
use Rattle.binary_field.specs.XorLaws.{digit-cases, masked-zero, masked-lt, masked-add, masked_low, masked-map}
use Rattle.binary_field.specs.Product.{double, bit_sum, product}

half_lt : {a : ℕ} (k : ℕ) → a < 2 ^ suc k → a / 2 < 2 ^ k
half_lt {a} k h = (div-lt_iff_lt-mul (zero-lt-suc 1)).1 (subst (λ (x : ℕ). a < x) (pow-suc 2 k) h)

masked-mul : (b x : ℕ) → masked (b % 2) x ≡ b % 2 * x
unfolding masked
masked-mul b x = digit-cases (λ d. masked d x ≡ d * x) (sym (zero-mul x)) (sym (one-mul x)) b

last-digit : (b i : ℕ) → b / 2 * 2 ^ suc i ⊕ masked (b % 2) (2 ^ i) ≡ b * 2 ^ i
last-digit b i =
    ⊕-shifted (b / 2) (suc i) (masked (b % 2) (2 ^ i)) (masked-lt (b % 2) (2 ^ i) (2 ^ suc i) (pow-lt (le_refl (suc i))))
    ∙ ap₂ ◌+◌ (ap (λ x. b / 2 * x) (pow-suc 2 i ∙ Nat.mul_comm (2 ^ i) 2) ∙ sym (Nat.mul_assoc (b / 2) 2 (2 ^ i))) (masked-mul b (2 ^ i))
    ∙ sym (add-mul (b / 2 * 2) (b % 2) (2 ^ i)) ∙ ap (λ x. x * 2 ^ i) (div-add-mod' b 2)

module _ (k m : ℕ) where
  pub double-lt : (a : ℕ) → double k m a < 2 ^ k
  unfolding double
  double-lt a = mod-lt (a * 2 ⊕ masked (a * 2 / 2 ^ k % 2) m) (pow_pos k)

  -- nothing is shifted out
  pub double-low : (a : ℕ) → a * 2 < 2 ^ k → double k m a ≡ a * 2
  unfolding double masked
  double-low a h = ap (λ x. (a * 2 ⊕ masked (x % 2) m) % 2 ^ k) (div-eq_of_lt h) ∙ ap (λ x. x % 2 ^ k) (⊕-zero-r (a * 2)) ∙ mod-eq_of_lt h

  -- the bit k is set
  pub double-high : (a : ℕ) → a * 2 / 2 ^ k % 2 ≡ 1 → double k m a ≡ (a * 2) % 2 ^ k ⊕ m % 2 ^ k
  unfolding double masked
  double-high a h = ap (λ x. (a * 2 ⊕ masked x m) % 2 ^ k) h ∙ ⊕-mod (a * 2) m k

  pub double-zero : double k m 0 ≡ 0
  double-zero = double-low 0 (pow_pos k)

  pub double-add : (a b : ℕ) → double k m (a ⊕ b) ≡ double k m a ⊕ double k m b
  unfolding double
  double-add a b =
      ap (λ x. x % 2 ^ k)
      (ap (λ x. x ⊕ masked (x / 2 ^ k % 2) m) (⊕-twice a b)
      ∙ ap (λ x. (a * 2 ⊕ b * 2) ⊕ x) (ap (λ x. masked (x % 2) m) (⊕-shr (a * 2) (b * 2) k) ∙ masked_low (a * 2 / 2 ^ k) (b * 2 / 2 ^ k) m)
      ∙ ⊕-swap (a * 2) (b * 2) (masked (a * 2 / 2 ^ k % 2) m) (masked (b * 2 / 2 ^ k % 2) m))
      ∙ ⊕-mod (a * 2 ⊕ masked (a * 2 / 2 ^ k % 2) m) (b * 2 ⊕ masked (b * 2 / 2 ^ k % 2) m) k

  -- ---- the sum over bits is linear in both arguments
  bits-zero-r : (n a : ℕ) → bit_sum k m n a 0 ≡ 0
  unfolding bit_sum masked
  bits-zero-r zero a = refl
  bits-zero-r (suc n) a = ⊕-zero-l (bit_sum k m n (double k m a) 0) ∙ bits-zero-r n (double k m a)

  bits-zero-l : (n b : ℕ) → bit_sum k m n 0 b ≡ 0
  unfolding bit_sum
  bits-zero-l zero b = refl
  bits-zero-l (suc n) b = ap₂ ◌⊕◌ (masked-zero (b % 2)) (ap (λ x. bit_sum k m n x (b / 2)) double-zero ∙ bits-zero-l n (b / 2)) ∙ ⊕-zero-l 0

  bits-add-r : (n a b c : ℕ) → bit_sum k m n a (b ⊕ c) ≡ bit_sum k m n a b ⊕ bit_sum k m n a c
  unfolding bit_sum
  bits-add-r zero a b c = sym (⊕-zero-l 0)
  bits-add-r (suc n) a b c =
      ap₂ ◌⊕◌ (masked_low b c a) (ap (bit_sum k m n (double k m a)) (⊕-half b c) ∙ bits-add-r n (double k m a) (b / 2) (c / 2))
      ∙ ⊕-swap (masked (b % 2) a) (masked (c % 2) a) (bit_sum k m n (double k m a) (b / 2)) (bit_sum k m n (double k m a) (c / 2))

  bits-add-l : (n a b c : ℕ) → bit_sum k m n (a ⊕ b) c ≡ bit_sum k m n a c ⊕ bit_sum k m n b c
  unfolding bit_sum
  bits-add-l zero a b c = sym (⊕-zero-l 0)
  bits-add-l (suc n) a b c =
      ap₂ ◌⊕◌ (masked-add (c % 2) a b) (ap (λ x. bit_sum k m n x (c / 2)) (double-add a b) ∙ bits-add-l n (double k m a) (double k m b) (c / 2))
      ∙ ⊕-swap (masked (c % 2) a) (masked (c % 2) b) (bit_sum k m n (double k m a) (c / 2)) (bit_sum k m n (double k m b) (c / 2))

  -- whatever is linear on a set that sum and doubling keep, and commutes with doubling, goes through
  module _ (S : ℕ → Type 0) (s0 : S 0) (s⊕ : (a b : ℕ) → S a → S b → S (a ⊕ b)) (sd : (a : ℕ) → S a → S (double k m a)) where
    bits_in : (n a b : ℕ) → S a → S (bit_sum k m n a b)
    unfolding bit_sum masked
    bits_in zero a b h = s0
    bits_in (suc n) a b h =
        s⊕ (masked (b % 2) a) (bit_sum k m n (double k m a) (b / 2)) (digit-cases (λ d. S (masked d a)) s0 h b) (bits_in n (double k m a) (b / 2) (sd a h))

    bits-map : (f : ℕ → ℕ) → f 0 ≡ 0 → ((a b : ℕ) → S a → S b → f (a ⊕ b) ≡ f a ⊕ f b) → ((a : ℕ) → S a → f (double k m a) ≡ double k m (f a))
        → (n a b : ℕ) → S a → f (bit_sum k m n a b) ≡ bit_sum k m n (f a) b
    unfolding bit_sum masked
    bits-map f f0 fa fd zero a b h = f0
    bits-map f f0 fa fd (suc n) a b h =
        fa (masked (b % 2) a) (bit_sum k m n (double k m a) (b / 2)) (digit-cases (λ d. S (masked d a)) s0 h b) (bits_in n (double k m a) (b / 2) (sd a h))
        ∙ ap₂ ◌⊕◌ (masked-map f f0 (b % 2) a) (bits-map f f0 fa fd n (double k m a) (b / 2) (sd a h) ∙ ap (λ x. bit_sum k m n x (b / 2)) (fd a h))

  -- everywhere
  bits-through : (f : ℕ → ℕ) → f 0 ≡ 0 → ((a b : ℕ) → f (a ⊕ b) ≡ f a ⊕ f b) → ((a : ℕ) → f (double k m a) ≡ double k m (f a))
      → (n a b : ℕ) → f (bit_sum k m n a b) ≡ bit_sum k m n (f a) b
  bits-through f f0 fa fd n a b =
      bits-map (λ _. Unit {0}) tt (λ _ _ _ _. tt) (λ _ _. tt) f f0 (λ x y _ _. fa x y) (λ x _. fd x) n a b tt

  bits-double : (n a b : ℕ) → bit_sum k m n (double k m a) b ≡ double k m (bit_sum k m n a b)
  bits-double n a b = sym (bits-through (double k m) double-zero double-add (λ _. refl) n a b)

  bits-right-comm : (i n a b c : ℕ) → bit_sum k m i (bit_sum k m n a b) c ≡ bit_sum k m n (bit_sum k m i a c) b
  bits-right-comm i n a b c =
      bits-through (λ x. bit_sum k m i x c) (bits-zero-l i c) (λ x y. bits-add-l i x y c) (λ x. bits-double i x c) n a b

  bits-lt : (n a b : ℕ) → a < 2 ^ k → bit_sum k m n a b < 2 ^ k
  bits-lt = bits_in (λ x. x < 2 ^ k) (pow_pos k) (⊕-lt k) (λ x _. double-lt x)

  -- one turn of the loop that computes a product
  pub bits-turn : (n r a b : ℕ) → (r ⊕ masked (b % 2) a) ⊕ bit_sum k m n (double k m a) (b / 2) ≡ r ⊕ bit_sum k m (suc n) a b
  unfolding bit_sum
  bits-turn n r a b = ⊕-assoc r (masked (b % 2) a) (bit_sum k m n (double k m a) (b / 2))

  pub bits-set : (n r a b : ℕ) → b % 2 ≡ 1 → (r ⊕ a) ⊕ bit_sum k m n (double k m a) (b / 2) ≡ r ⊕ bit_sum k m (suc n) a b
  unfolding masked
  bits-set n r a b e = ap (λ d. (r ⊕ masked d a) ⊕ bit_sum k m n (double k m a) (b / 2)) (sym e) ∙ bits-turn n r a b

  pub bits-clear : (n r a b : ℕ) → b % 2 ≡ 0 → r ⊕ bit_sum k m n (double k m a) (b / 2) ≡ r ⊕ bit_sum k m (suc n) a b
  unfolding masked
  bits-clear n r a b e =
      ap (λ x. x ⊕ bit_sum k m n (double k m a) (b / 2)) (sym (⊕-zero-r r)) ∙ ap (λ d. (r ⊕ masked d a) ⊕ bit_sum k m n (double k m a) (b / 2)) (sym e)
      ∙ bits-turn n r a b

  pub bits_none : (a b : ℕ) → bit_sum k m 0 a b ≡ 0
  unfolding bit_sum
  bits_none a b = refl

  -- ---- 1 is the unit, digit by digit: 2 ^ i stands for x ^ i while i < k
  ones-rest : (n i b : ℕ) → i + suc n ≡ k → bit_sum k m n (2 ^ suc i) (b / 2) ≡ b / 2 * 2 ^ suc i → bit_sum k m n (double k m (2 ^ i)) (b / 2) ≡ b / 2 * 2 ^ suc i
  unfolding bit_sum
  ones-rest zero i b e ih = ih
  ones-rest (suc n) i b e ih =
      ap (λ x. bit_sum k m (suc n) x (b / 2)) (double-low (2 ^ i) (subst (λ x. x < 2 ^ k) (pow-suc 2 i) (pow-lt (omega arith))) ∙ sym (pow-suc 2 i)) ∙ ih

  ones : (n i b : ℕ) → i + n ≡ k → b < 2 ^ n → bit_sum k m n (2 ^ i) b ≡ b * 2 ^ i
  unfolding bit_sum
  ones zero i b e h = sym (ap (λ x. x * 2 ^ i) (lt-one h) ∙ zero-mul (2 ^ i))
  ones (suc n) i b e h =
      ap (λ x. masked (b % 2) (2 ^ i) ⊕ x) (ones-rest n i b e (ones n (suc i) (b / 2) (omega arith) (half_lt n h)))
      ∙ ⊕-comm (masked (b % 2) (2 ^ i)) (b / 2 * 2 ^ suc i) ∙ last-digit b i

  bits-one : (b : ℕ) → b < 2 ^ k → bit_sum k m k 1 b ≡ b
  bits-one b h = ones k 0 b (zero-add k) h ∙ mul-one b

  bits-comm : (a b : ℕ) → a < 2 ^ k → b < 2 ^ k → bit_sum k m k a b ≡ bit_sum k m k b a
  bits-comm a b ha hb =
      ap (λ x. bit_sum k m k x b) (sym (bits-one a ha)) ∙ bits-right-comm k k 1 a b ∙ ap (λ x. bit_sum k m k x a) (bits-one b hb)

  reduced-lt : (a : ℕ) → a % 2 ^ k < 2 ^ k
  reduced-lt a = mod-lt a (pow_pos k)

  -- ---- the product
  pub product_lt : (a b : ℕ) → product k m a b < 2 ^ k
  unfolding product
  product_lt a b = bits-lt k (a % 2 ^ k) (b % 2 ^ k) (reduced-lt a)

  pub product-of : (a b : ℕ) → a < 2 ^ k → b < 2 ^ k → product k m a b ≡ bit_sum k m k a b
  unfolding product
  product-of a b ha hb = ap₂ (bit_sum k m k) (mod-eq_of_lt ha) (mod-eq_of_lt hb)

  pub product-low-l : (a b : ℕ) → product k m (a % 2 ^ k) b ≡ product k m a b
  unfolding product
  product-low-l a b = ap (λ x. bit_sum k m k x (b % 2 ^ k)) (mod-mod a (2 ^ k))

  pub product-comm : (a b : ℕ) → product k m a b ≡ product k m b a
  unfolding product
  product-comm a b = bits-comm (a % 2 ^ k) (b % 2 ^ k) (reduced-lt a) (reduced-lt b)

  pub product-low-r : (a b : ℕ) → product k m a (b % 2 ^ k) ≡ product k m a b
  product-low-r a b = product-comm a (b % 2 ^ k) ∙ product-low-l b a ∙ product-comm b a

  pub product-add : (a b c : ℕ) → product k m a (b ⊕ c) ≡ product k m a b ⊕ product k m a c
  unfolding product
  product-add a b c = ap (bit_sum k m k (a % 2 ^ k)) (⊕-mod b c k) ∙ bits-add-r k (a % 2 ^ k) (b % 2 ^ k) (c % 2 ^ k)

  pub add-product : (a b c : ℕ) → product k m (a ⊕ b) c ≡ product k m a c ⊕ product k m b c
  add-product a b c = product-comm (a ⊕ b) c ∙ product-add c a b ∙ ap₂ ◌⊕◌ (product-comm c a) (product-comm c b)

  pub product-zero : (a : ℕ) → product k m a 0 ≡ 0
  product-zero a = ap (product k m a) (sym (⊕-self 0)) ∙ product-add a 0 0 ∙ ⊕-self (product k m a 0)

  pub zero-product : (a : ℕ) → product k m 0 a ≡ 0
  zero-product a = product-comm 0 a ∙ product-zero a

  bits-of-bits : (a b c : ℕ) → product k m (product k m a b) c ≡ bit_sum k m k (bit_sum k m k (a % 2 ^ k) (b % 2 ^ k)) (c % 2 ^ k)
  unfolding product
  bits-of-bits a b c = ap (λ s. bit_sum k m k s (c % 2 ^ k)) (mod-eq_of_lt (bits-lt k (a % 2 ^ k) (b % 2 ^ k) (reduced-lt a)))

  right_comm : (a b c : ℕ) → product k m (product k m a b) c ≡ product k m (product k m a c) b
  right_comm a b c = bits-of-bits a b c ∙ bits-right-comm k k (a % 2 ^ k) (b % 2 ^ k) (c % 2 ^ k) ∙ sym (bits-of-bits a c b)

  pub product-assoc : (a b c : ℕ) → product k m (product k m a b) c ≡ product k m a (product k m b c)
  product-assoc a b c = ap (λ x. product k m x c) (product-comm a b) ∙ right_comm b a c ∙ product-comm (product k m b c) a

  pub product-left-comm : (a b c : ℕ) → product k m a (product k m b c) ≡ product k m b (product k m a c)
  product-left-comm a b c = sym (product-assoc a b c) ∙ ap (λ x. product k m x c) (product-comm a b) ∙ product-assoc b a c

  pub double-product : (a b : ℕ) → a < 2 ^ k → product k m (double k m a) b ≡ double k m (product k m a b)
  unfolding product
  double-product a b h =
      ap (λ x. bit_sum k m k x (b % 2 ^ k)) (mod-eq_of_lt (double-lt a)) ∙ bits-double k a (b % 2 ^ k)
      ∙ ap (λ x. double k m (bit_sum k m k x (b % 2 ^ k))) (sym (mod-eq_of_lt h))

  module _ (pos : 0 < k) where
    one-lt : 1 < 2 ^ k
    one-lt = pow-lt pos

    pub one_product : (a : ℕ) → product k m 1 a ≡ a % 2 ^ k
    unfolding product
    one_product a = ap (λ x. bit_sum k m k x (a % 2 ^ k)) (mod-eq_of_lt one-lt) ∙ bits-one (a % 2 ^ k) (reduced-lt a)

    pub product-one : (a : ℕ) → a < 2 ^ k → product k m a 1 ≡ a
    product-one a h = product-comm a 1 ∙ one_product a ∙ mod-eq_of_lt h

    -- a map that is linear on k digits and commutes with doubling is the product by its value at 1
    pub linear-product : (f : ℕ → ℕ) → f 0 ≡ 0 → ((a b : ℕ) → a < 2 ^ k → b < 2 ^ k → f (a ⊕ b) ≡ f a ⊕ f b)
        → ((a : ℕ) → a < 2 ^ k → f (double k m a) ≡ double k m (f a)) → f 1 < 2 ^ k → (a : ℕ) → a < 2 ^ k → f a ≡ product k m (f 1) a
    linear-product f f0 fa fd l a h =
        ap f (sym (bits-one a h)) ∙ bits-map (λ x. x < 2 ^ k) (pow_pos k) (⊕-lt k) (λ x _. double-lt x) f f0 fa fd k 1 a one-lt
        ∙ sym (product-of (f 1) a l h)

-- decides equations of sums and products; the unit is not in it
pub ruleset ring = (sums, product-assoc, product-comm, product-left-comm, product-add, add-product, product-zero, zero-product)
