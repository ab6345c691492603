-- Laws: Powers, and that a power of two as exponent is additive (Frobenius).
use Rattle.std.specs.Prelude.{◌≡◌}
use Rattle.std.proofs.Math.Path.{refl, sym, ap}
use Rattle.std.proofs.Common.{ap₂, ◌∙◌, pow-suc, div-add-mod', zero-add, suc-add, mod-eq_of_lt, mul-suc, mul-zero, mul_comm}
use Prim.Native.Nat.{ℕ, zero, suc, ◌+◌, ◌*◌, ◌%◌, ◌^◌, ◌/◌, ◌<◌}
use Rattle.std.proofs.Math.Nat
use Rattle.std.proofs.Math.Nat.{add_comm}
use Rattle.std.proofs.Math.Pow.{pow-lt}
use Rattle.binary_field.specs.Xor.{◌⊕◌}
use Rattle.binary_field.specs.Product.{double, product}
use Rattle.binary_field.specs.ProductLaws.{product_lt, product-assoc, product-low-l, one_product, product-one, double-product, ring}
use Rattle.binary_field.specs.Power.{power, squares}

module _ (k m : ℕ) where
  pub power_zero : (a : ℕ) → power k m a 0 ≡ 1
  unfolding power
  power_zero a = refl

  pub power-suc : (a n : ℕ) → power k m a (suc n) ≡ product k m a (power k m a n)
  unfolding power
  power-suc a n = refl

  pub power-low : (a n : ℕ) → power k m (a % 2 ^ k) n ≡ power k m a n
  unfolding power
  power-low a zero = refl
  power-low a (suc n) = product-low-l k m a (power k m (a % 2 ^ k) n) ∙ ap (product k m a) (power-low a n)

  module _ (pos : 0 < k) where
    pub power-lt : (a n : ℕ) → power k m a n < 2 ^ k
    unfolding power
    power-lt a zero = pow-lt pos
    power-lt a (suc n) = product_lt k m a (power k m a n)

    pub power-one : (a : ℕ) → a < 2 ^ k → power k m a 1 ≡ a
    unfolding power
    power-one a h = product-one k m pos a h

    -- 1 times a power
    unit : (a n : ℕ) → product k m 1 (power k m a n) ≡ power k m a n
    unit a n = one_product k m pos (power k m a n) ∙ mod-eq_of_lt (power-lt a n)

    pub power-add : (a i n : ℕ) → power k m a (i + n) ≡ product k m (power k m a i) (power k m a n)
    unfolding power
    power-add a zero n = ap (power k m a) (zero-add n) ∙ sym (unit a n)
    power-add a (suc i) n =
        ap (power k m a) (suc-add i n) ∙ ap (product k m a) (power-add a i n) ∙ sym (product-assoc k m a (power k m a i) (power k m a n))

    pub power-mul : (a i n : ℕ) → power k m a (i * n) ≡ power k m (power k m a i) n
    unfolding power
    power-mul a i zero = ap (power k m a) (mul-zero i)
    power-mul a i (suc n) =
        ap (power k m a) (mul-suc i n ∙ add_comm (i * n) i) ∙ power-add a i (i * n) ∙ ap (product k m (power k m a i)) (power-mul a i n)

    pub power-swap : (a i n : ℕ) → power k m (power k m a i) n ≡ power k m (power k m a n) i
    power-swap a i n = sym (power-mul a i n) ∙ ap (power k m a) (mul_comm i n) ∙ power-mul a n i

    pub one_power : (n : ℕ) → power k m 1 n ≡ 1
    unfolding power
    one_power zero = refl
    one_power (suc n) = unit 1 n ∙ one_power n

    pub product-power : (a b n : ℕ) → power k m (product k m a b) n ≡ product k m (power k m a n) (power k m b n)
    unfolding power
    product-power a b zero = sym (unit 1 0)
    product-power a b (suc n) = ap (product k m (product k m a b)) (product-power a b n) ∙ simp ring

    -- a square of a power
    pub power-twice : (a n : ℕ) → power k m a (n * 2) ≡ product k m (power k m a n) (power k m a n)
    power-twice a n = ap (power k m a) (mul-suc n 1 ∙ ap (λ x. x + n) (Nat.mul-one n)) ∙ power-add a n n

    pub power-squares : (a n : ℕ) → a < 2 ^ k → power k m a (2 ^ n) ≡ squares k m n a
    unfolding squares
    power-squares a zero h = power-one a h
    power-squares a (suc n) h =
        ap (power k m a) (pow-suc 2 n) ∙ power-twice a (2 ^ n) ∙ ap (λ x. product k m x x) (power-squares a n h)

    square-add : (a b : ℕ) → product k m (a ⊕ b) (a ⊕ b) ≡ product k m a a ⊕ product k m b b
    square-add a b = simp ring

    -- (a + b) ^ 2 ^ n = a ^ 2 ^ n + b ^ 2 ^ n
    pub frobenius : (a b n : ℕ) → power k m (a ⊕ b) (2 ^ n) ≡ power k m a (2 ^ n) ⊕ power k m b (2 ^ n)
    frobenius a b zero = rw (power-suc, power-suc a, power-suc b, power_zero, power_zero a, power_zero b) (simp ring)
    frobenius a b (suc n) =
        let e : (c : ℕ) → power k m c (2 ^ suc n) ≡ product k m (power k m c (2 ^ n)) (power k m c (2 ^ n)) = λ c. ap (power k m c) (pow-suc 2 n)
        ∙ power-twice c (2 ^ n) in
        e (a ⊕ b) ∙ ap (λ x. product k m x x) (frobenius a b n) ∙ square-add (power k m a (2 ^ n)) (power k m b (2 ^ n)) ∙ ap₂ ◌⊕◌ (sym (e a)) (sym (e b))

    -- where a power is 1, exponents count modulo it
    pub power-mod : (a N n : ℕ) → power k m a N ≡ 1 → power k m a (n % N) ≡ power k m a n
    power-mod a N n e =
        sym
        (ap (power k m a) (sym (div-add-mod' n N) ∙ ap (λ x. x + n % N) (mul_comm (n / N) N)) ∙ power-add a (N * (n / N)) (n % N)
        ∙ ap (λ x. product k m x (power k m a (n % N))) (power-mul a N (n / N) ∙ ap (λ x. power k m x (n / N)) e ∙ one_power (n / N))
        ∙ unit a (n % N))

    -- the number 2 of the field, and its powers by doubling
    pub double-is : (a : ℕ) → a < 2 ^ k → double k m a ≡ product k m (double k m 1) a
    double-is a h =
        ap (double k m) (sym (one_product k m pos a ∙ mod-eq_of_lt h)) ∙ sym (double-product k m 1 a (pow-lt pos))

    pub power-double : (n : ℕ) → power k m (double k m 1) (suc n) ≡ double k m (power k m (double k m 1) n)
    unfolding power
    power-double n = sym (double-is (power k m (double k m 1) n) (power-lt (double k m 1) n))
