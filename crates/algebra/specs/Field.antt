-- A field of characteristic 2, its powers, and `ring`, a set for `simp` that decides the equations of the ring: products sorted,
-- sums sorted and equal pairs struck out are a normal form.
use Rattle.std.specs.Prelude.{◌≡◌, ℕ, zero, suc}
use mathlib.Core.HLevel.{Discrete}

pub record Field : Type 1 where
  pub K : Type 0
  pub add : K → K → K
  pub mul : K → K → K
  pub 𝟘 : K
  pub 𝟙 : K
  pub inv : K → K
  pub dec : Discrete K
  pub add_assoc : (a b c : K) → add (add a b) c ≡ add a (add b c)
  pub add_comm : (a b : K) → add a b ≡ add b a
  pub add-zero : (a : K) → add a 𝟘 ≡ a
  pub add-self : (a : K) → add a a ≡ 𝟘
  pub mul_assoc : (a b c : K) → mul (mul a b) c ≡ mul a (mul b c)
  pub mul_comm : (a b : K) → mul a b ≡ mul b a
  pub mul-one : (a : K) → mul a 𝟙 ≡ a
  pub distrib : (a b c : K) → mul a (add b c) ≡ add (mul a b) (mul a c)
  pub one-ne-zero : ¬ (𝟙 ≡ 𝟘)
  pub mul-inv : (a : K) → ¬ (a ≡ 𝟘) → mul a (inv a) ≡ 𝟙

module _ (F : Field) where
  open F use {K, add as ◌⊕◌, mul as ◌⊗◌, 𝟘, 𝟙, inv, one-ne-zero, mul-inv}

  infixl 65 ◌⊕◌
  infixl 70 ◌⊗◌
  -- Powers. The power 0 of zero is one.
  unfoldable pub pow : K → ℕ → K
  pow a zero = 𝟙
  pow a (suc n) = a ⊗ pow a n
