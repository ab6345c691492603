-- Laws: When the ring is a field, by two tests that compute on k numbers each:
--   x ^ (2 ^ k) = x, by k squarings; then every element is its own 2 ^ k-th power;
--   a linear map, given by its k values at 1, 2, 4, .., takes e ^ 2 + e back to e less its digit 0; then e ^ 2 = e only for 0 and 1.
use Rattle.std.specs.Prelude.{◌≡◌, refl, List, T}
use Rattle.std.proofs.Math.Path.{sym, ap}
use Rattle.std.proofs.Common.{◌∙◌, mod-eq_of_lt}
use Prim.Native.Nat.{ℕ, zero, suc, ◌-◌, ◌*◌, ◌/◌, ◌^◌, ◌<◌}
use native.Mathlib.Omega.{arith}
use Rattle.std.proofs.Math.Dec.{eqb, eqb→eq}
use Rattle.std.proofs.Math.Pow.{pow-lt}
use Rattle.binary_field.specs.Xor.{◌⊕◌}
use Rattle.binary_field.specs.XorLaws.{⊕-self, ⊕-half, ⊕-twice}
use Rattle.counting.specs.TestLaws.{and_l, and_r, all-at}
use Rattle.binary_field.specs.Product.{double, product}
use Rattle.binary_field.specs.ProductLaws.{double-lt, product-comm, product-assoc, product-left-comm, product-zero, one_product}
use Rattle.binary_field.specs.ProductLaws.{linear-product, ring}
use Rattle.binary_field.specs.Power.{power, squares}
use Rattle.binary_field.specs.PowerLaws.{power-lt, power-suc, power-squares, one_power, product-power, frobenius, double-is}
use Rattle.binary_field.specs.Inverse.{linear_map, is_field, inverse}
use Rattle.binary_field.specs.AdditiveLaws.{map-add, additive-zero, agree}

module _ (k m : ℕ) (pos : 0 < k) where
  one-lt : 1 < 2 ^ k
  one-lt = pow-lt pos

  pub inverse-lt : (a : ℕ) → inverse k m a < 2 ^ k
  unfolding inverse
  inverse-lt a = power-lt k m pos a (2 ^ k - 2)

  zero-power : (n : ℕ) → power k m 0 (2 ^ n) ≡ 0
  zero-power n = ap (λ x. power k m x (2 ^ n)) (sym (⊕-self 0)) ∙ frobenius k m pos 0 0 n ∙ ⊕-self (power k m 0 (2 ^ n))

  -- an exponent 2 ^ n that fixes x fixes everything
  fixed : (n : ℕ) → power k m (double k m 1) (2 ^ n) ≡ double k m 1 → (a : ℕ) → a < 2 ^ k → power k m a (2 ^ n) ≡ a
  fixed n e a h =
      linear-product k m pos (λ x. power k m x (2 ^ n)) (zero-power n) (λ x y _ _. frobenius k m pos x y n)
      (λ x l.
      ap (λ y. power k m y (2 ^ n)) (double-is k m pos x l) ∙ product-power k m pos (double k m 1) x (2 ^ n)
      ∙ ap (λ y. product k m y (power k m x (2 ^ n))) e ∙ sym (double-is k m pos (power k m x (2 ^ n)) (power-lt k m pos x (2 ^ n))))
      (power-lt k m pos 1 (2 ^ n)) a h
      ∙ ap (λ x. product k m x a) (one_power k m pos (2 ^ n)) ∙ one_product k m pos a ∙ mod-eq_of_lt h

  module _ (ts : List ℕ) (ok : T (is_field k m ts)) where
    -- a ^ (2 ^ k) = a
    pub power_size : (a : ℕ) → a < 2 ^ k → power k m a (2 ^ k) ≡ a
    unfolding is_field
    power_size =
        fixed k
        (power-squares k m pos (double k m 1) k (double-lt k m 1)
        ∙ eqb→eq (squares k m k (double k m 1)) (double k m 1) (and_l (eqb (squares k m k (double k m 1)) (double k m 1)) _ ok))

    split : (i : ℕ) → i < k → linear_map ts (product k m (2 ^ i) (2 ^ i) ⊕ 2 ^ i) ≡ 2 ^ i / 2 * 2
    unfolding is_field
    split i h =
        eqb→eq _ _ (all-at k (λ i. eqb (linear_map ts (product k m (2 ^ i) (2 ^ i) ⊕ 2 ^ i)) (2 ^ i / 2 * 2))
        (and_r (eqb (squares k m k (double k m 1)) (double k m 1)) _ ok) i h)

    -- what is its own square is 0 or 1
    idempotent : (e : ℕ) → e < 2 ^ k → product k m e e ≡ e → e < 2
    idempotent e h same =
        let at-e : linear_map ts (product k m e e ⊕ e) ≡ e / 2 * 2 =
        agree k (λ x. linear_map ts (product k m x x ⊕ x)) (λ x. x / 2 * 2)
        (λ a b. ap (linear_map ts) (squares-add a b) ∙ map-add ts (product k m a a ⊕ a) (product k m b b ⊕ b))
        (λ a b. ap (λ x. x * 2) (⊕-half a b) ∙ ⊕-twice (a / 2) (b / 2))
        split e h
        in
        let gone : e / 2 * 2 ≡ 0 = sym at-e ∙ ap (λ x. linear_map ts (x ⊕ e)) same ∙ ap (linear_map ts) (⊕-self e) ∙ additive-zero (linear_map ts) (map-add ts) in
        omega arith
      where
        squares-add : (a b : ℕ) → product k m (a ⊕ b) (a ⊕ b) ⊕ (a ⊕ b) ≡ (product k m a a ⊕ a) ⊕ (product k m b b ⊕ b)
        squares-add a b = simp ring

    -- a ^ (2 ^ k - 1) = 1
    pub power-last : (a : ℕ) → a < 2 ^ k → (a ≡ 0 → ⊥) → power k m a (2 ^ k - 1) ≡ 1
    power-last a h ne = pick (power k m a (2 ^ k - 1)) refl (idempotent e (power-lt k m pos a (2 ^ k - 1)) own)
      where
        e : ℕ
        e = power k m a (2 ^ k - 1)

        keeps : product k m a e ≡ a
        keeps = let l = one-lt in let w : suc (2 ^ k - 1) ≡ 2 ^ k = omega arith in sym (power-suc k m a (2 ^ k - 1)) ∙ ap (power k m a) w ∙ power_size a h

        own : product k m e e ≡ e
        own =
            let l = one-lt in
            let w : 2 ^ k - 1 ≡ suc (2 ^ k - 2) = omega arith in
            let u : e ≡ product k m a (power k m a (2 ^ k - 2)) = ap (power k m a) w ∙ power-suc k m a (2 ^ k - 2) in
            ap (λ x. product k m x e) u ∙ product-assoc k m a (power k m a (2 ^ k - 2)) e
            ∙ product-left-comm k m a (power k m a (2 ^ k - 2)) e ∙ ap (product k m (power k m a (2 ^ k - 2))) keeps
            ∙ product-comm k m (power k m a (2 ^ k - 2)) a ∙ sym u

        pick : (x : ℕ) → e ≡ x → e < 2 → e ≡ 1
        pick zero q l = absurd (ne (sym keeps ∙ ap (product k m a) q ∙ product-zero k m a))
        pick (suc zero) q l = q
        pick (suc (suc x)) q l = absurd (omega arith)

    pub product-inverse : (a : ℕ) → a < 2 ^ k → (a ≡ 0 → ⊥) → product k m a (inverse k m a) ≡ 1
    unfolding inverse
    product-inverse a h ne =
        let l = one-lt in let w : suc (2 ^ k - 2) ≡ 2 ^ k - 1 = omega arith in
        sym (power-suc k m a (2 ^ k - 2)) ∙ ap (power k m a) w ∙ power-last a h ne

    pub no-zero-divisors : (a b : ℕ) → a < 2 ^ k → b < 2 ^ k → (a ≡ 0 → ⊥) → product k m a b ≡ 0 → b ≡ 0
    no-zero-divisors a b ha hb ne z =
        sym (mod-eq_of_lt hb) ∙ sym (one_product k m pos b) ∙ ap (λ x. product k m x b) (sym (product-inverse a ha ne) ∙ product-comm k m a (inverse k m a))
        ∙ product-assoc k m (inverse k m a) a b ∙ ap (product k m (inverse k m a)) z ∙ product-zero k m (inverse k m a)
