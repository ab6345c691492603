-- Laws: The order of an element: the first power that is 1, by walks that compute.
use Rattle.std.specs.Prelude.{◌≡◌, not, eqb}
use Rattle.std.proofs.Math.Path.{refl, sym}
use Rattle.std.proofs.Common.{ap, ◌∙◌, subst, zero-lt-suc, div-add-mod', mod-lt, add-zero, not-suc-le-zero, le_of_suc-le-suc, div-lt_iff_lt-mul, mul_comm, mul-zero, arith}
use Prim.Native.Nat.{ℕ, zero, suc, ◌*◌, ◌/◌, ◌%◌, ◌^◌, ◌+◌, ◌-◌, ◌≤◌, ◌<◌}
use Rattle.std.proofs.Math.Decide.{dec_le}
use Rattle.std.proofs.Math.Dec.{T, eqb→eq, eqb_refl, T_not}
use Rattle.counting.specs.TestLaws.{and_l, and_r}
use Rattle.binary_field.specs.Product.{product}
use Rattle.binary_field.specs.ProductLaws.{product-assoc, product-one, product-comm, product_lt}
use Rattle.binary_field.specs.Power.{power}
use Rattle.binary_field.specs.PowerLaws.{power-lt, power-add, power-mul, power-swap, power-mod, one_power}
use Rattle.binary_field.specs.ElementOrder.{returns_at, has_order, Order}

module _ (k m : ℕ) (pos : 0 < k) where
  ends : (n g a : ℕ) → a < 2 ^ k → T (returns_at k m n g a) → product k m a (power k m g n) ≡ 1
  unfolding returns_at power
  ends zero g a h t = product-one k m pos a h ∙ eqb→eq a 1 t
  ends (suc n) g a h t =
      sym (product-assoc k m a g (power k m g n))
      ∙ ends n g (product k m a g) (product_lt k m a g) (and_r (not (eqb a 1)) (returns_at k m n g (product k m a g)) t)

  not-before : (n g a : ℕ) → a < 2 ^ k → T (returns_at k m n g a) → (i : ℕ) → i < n → product k m a (power k m g i) ≡ 1 → ⊥
  unfolding returns_at power
  not-before zero g a h t i l e = absurd (not-suc-le-zero l)
  not-before (suc n) g a h t zero l e =
      T_not (eqb a 1) (and_l (not (eqb a 1)) (returns_at k m n g (product k m a g)) t)
      (subst (λ x. T (eqb a x)) (sym (product-one k m pos a h) ∙ e) (eqb_refl a))
  not-before (suc n) g a h t (suc i) l e =
      not-before n g (product k m a g) (product_lt k m a g) (and_r (not (eqb a 1)) (returns_at k m n g (product k m a g)) t) i (le_of_suc-le-suc l)
      (product-assoc k m a g (power k m g i) ∙ e)

  pub order-of : (n g : ℕ) → g < 2 ^ k → T (has_order k m g n) → Order k m g (suc n)
  unfolding power
  order-of n g h t = record { end = ends n g g h t; first = first }
    where
      first : (i : ℕ) → i < suc n → power k m g i ≡ 1 → i ≡ 0
      first zero l e = refl
      first (suc i) l e = absurd (not-before n g g h t i (le_of_suc-le-suc l) e)

  -- g is of order m n where g ^ m is of order n and g ^ n of order m, with no factor in common asked: two short walks for a long one
  pub order-product : (g a b : ℕ) → Order k m (power k m g (suc a)) (suc b) → Order k m (power k m g (suc b)) (suc a) → Order k m g (suc a * suc b)
  order-product g a b A B = record { end = power-mul k m pos g (suc a) (suc b) ∙ A.end; first = first }
    where
      first : (i : ℕ) → i < suc a * suc b → power k m g i ≡ 1 → i ≡ 0
      first i l e =
          let at_a : power k m (power k m g (suc a)) i ≡ 1 = power-swap k m pos g (suc a) i ∙ ap (λ x. power k m x (suc a)) e ∙ one_power k m pos (suc a) in
          let r0 : i % suc b ≡ 0 =
          A.first (i % suc b) (mod-lt i (zero-lt-suc b)) (power-mod k m pos (power k m g (suc a)) (suc b) i A.end ∙ at_a) in
          let whole : i ≡ suc b * (i / suc b) = sym (div-add-mod' i (suc b)) ∙ ap (λ x. i / suc b * suc b + x) r0 ∙ add-zero (i / suc b * suc b)
          ∙ mul_comm (i / suc b) (suc b) in
          let q0 : i / suc b ≡ 0 =
          B.first (i / suc b) ((div-lt_iff_lt-mul (zero-lt-suc b)).1 l) (sym (power-mul k m pos g (suc b) (i / suc b)) ∙ ap (power k m g) (sym whole) ∙ e)
          in whole ∙ ap (λ x. suc b * x) q0 ∙ mul-zero (suc b)

  -- the powers of g below its order are different
  module _ (g N : ℕ) (O : Order k m g N) where
    later : (i d : ℕ) → i < N → d < N → power k m g i ≡ power k m g (i + d) → d ≡ 0
    later i d hi hd e =
        O.first d hd
        (sym (unit d) ∙ ap (λ x. product k m x (power k m g d)) (sym O.end ∙ ap (power k m g) back ∙ power-add k m pos g (N - i) i)
        ∙ product-assoc k m (power k m g (N - i)) (power k m g i) (power k m g d)
        ∙ ap (product k m (power k m g (N - i))) (sym (power-add k m pos g i d) ∙ sym e) ∙ sym (power-add k m pos g (N - i) i) ∙ ap (power k m g) (sym back)
        ∙ O.end)
      where
        back : N ≡ (N - i) + i
        back = omega arith

        unit : (n : ℕ) → product k m 1 (power k m g n) ≡ power k m g n
        unit n = product-comm k m 1 (power k m g n) ∙ product-one k m pos (power k m g n) (power-lt k m pos g n)

    in_order : (i l : ℕ) → i ≤ l → l < N → power k m g i ≡ power k m g l → i ≡ l
    in_order i l h hl e = let q : l - i ≡ 0 = later i (l - i) (omega arith) (omega arith) (e ∙ ap (power k m g) same) in omega arith
      where
        same : l ≡ i + (l - i)
        same = omega arith

    pub powers-differ : (i l : ℕ) → i < N → l < N → power k m g i ≡ power k m g l → i ≡ l
    powers-differ i l hi hl e = go (dec_le i l)
      where
        go : Dec (i ≤ l) → i ≡ l
        go (yes h) = in_order i l h hl e
        go (no h) = sym (in_order l i (omega arith) hi (sym e))
