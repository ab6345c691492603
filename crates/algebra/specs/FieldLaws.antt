-- Laws: A field of characteristic 2, its powers, and `ring`, a set for `simp` that decides the equations of the ring: products sorted,
-- sums sorted and equal pairs struck out are a normal form.
use Rattle.std.specs.Prelude.{◌≡◌, ℕ, zero, suc, ◌+◌, ◌*◌}
use Rattle.std.proofs.Math.Path.{refl}
use Rattle.std.proofs.Common.{sym, ◌∙◌, ap, zero-add as nat-zero-add, suc-add, zero-mul as nat-zero-mul, suc-mul, mul_comm as nat-mul-comm}
use Rattle.algebra.specs.Field.{Field, pow}

module _ (F : Field) where
  open F use {K, add as ◌⊕◌, mul as ◌⊗◌, 𝟘, 𝟙}

  infixl 65 ◌⊕◌
  infixl 70 ◌⊗◌
  -- The laws of the record, as lemmas: a set for `simp` takes no fields.
  pub add_assoc : (a b c : K) → (a ⊕ b) ⊕ c ≡ a ⊕ (b ⊕ c)
  add_assoc = F.add_assoc

  pub add_comm : (a b : K) → a ⊕ b ≡ b ⊕ a
  add_comm = F.add_comm

  pub add-zero : (a : K) → a ⊕ 𝟘 ≡ a
  add-zero = F.add-zero

  pub add-self : (a : K) → a ⊕ a ≡ 𝟘
  add-self = F.add-self

  pub mul_assoc : (a b c : K) → (a ⊗ b) ⊗ c ≡ a ⊗ (b ⊗ c)
  mul_assoc = F.mul_assoc

  pub mul_comm : (a b : K) → a ⊗ b ≡ b ⊗ a
  mul_comm = F.mul_comm

  pub mul-one : (a : K) → a ⊗ 𝟙 ≡ a
  mul-one = F.mul-one

  pub distrib : (a b c : K) → a ⊗ (b ⊕ c) ≡ (a ⊗ b) ⊕ (a ⊗ c)
  distrib = F.distrib

  pub zero-add : (a : K) → 𝟘 ⊕ a ≡ a
  zero-add a = add_comm 𝟘 a ∙ add-zero a

  pub add_left_comm : (a b c : K) → a ⊕ (b ⊕ c) ≡ b ⊕ (a ⊕ c)
  add_left_comm a b c = sym (add_assoc a b c) ∙ ap (λ s. s ⊕ c) (add_comm a b) ∙ add_assoc b a c

  pub add-self-left : (a b : K) → a ⊕ (a ⊕ b) ≡ b
  add-self-left a b = sym (add_assoc a a b) ∙ ap (λ s. s ⊕ b) (add-self a) ∙ zero-add b

  pub one-mul : (a : K) → 𝟙 ⊗ a ≡ a
  one-mul a = mul_comm 𝟙 a ∙ mul-one a

  pub mul_left_comm : (a b c : K) → a ⊗ (b ⊗ c) ≡ b ⊗ (a ⊗ c)
  mul_left_comm a b c = sym (mul_assoc a b c) ∙ ap (λ s. s ⊗ c) (mul_comm a b) ∙ mul_assoc b a c

  pub distrib-right : (a b c : K) → (a ⊕ b) ⊗ c ≡ (a ⊗ c) ⊕ (b ⊗ c)
  distrib-right a b c = mul_comm (a ⊕ b) c ∙ distrib c a b ∙ simp mul_comm

  pub mul-zero : (a : K) → a ⊗ 𝟘 ≡ 𝟘
  mul-zero a = ap (λ s. a ⊗ s) (sym (add-self 𝟘)) ∙ distrib a 𝟘 𝟘 ∙ add-self (a ⊗ 𝟘)

  pub zero-mul : (a : K) → 𝟘 ⊗ a ≡ 𝟘
  zero-mul a = mul_comm 𝟘 a ∙ mul-zero a

pub ruleset ring = (
  add_assoc,
  add_comm,
  add_left_comm,
  add-zero,
  zero-add,
  add-self,
  add-self-left,
  mul_assoc,
  mul_comm,
  mul_left_comm,
  mul-one,
  one-mul,
  distrib,
  distrib-right,
  mul-zero,
  zero-mul,
)

module _ (F : Field) where
  open F use {K, add as ◌⊕◌, mul as ◌⊗◌, 𝟘, 𝟙, inv, one-ne-zero, mul-inv}

  infixl 65 ◌⊕◌
  infixl 70 ◌⊗◌
  -- A sum of two is zero exactly if they are equal.
  pub eq-of-add-zero : {a b : K} → a ⊕ b ≡ 𝟘 → a ≡ b
  eq-of-add-zero {a} {b} h = sym (add-self-left F b a) ∙ ap (λ s. b ⊕ s) (add_comm F b a ∙ h) ∙ add-zero F b

  pub add-zero-of-eq : {a b : K} → a ≡ b → a ⊕ b ≡ 𝟘
  add-zero-of-eq {a} {b} h = rw h (add-self F b)

  -- There are no divisors of zero.
  pub mul-cancel : {a b : K} → ¬ (a ≡ 𝟘) → a ⊗ b ≡ 𝟘 → b ≡ 𝟘
  mul-cancel {a} {b} n h =
      let e : inv a ⊗ (a ⊗ b) ≡ (a ⊗ inv a) ⊗ b = simp ring in
      sym (one-mul F b) ∙ ap (λ s. s ⊗ b) (sym (mul-inv a n)) ∙ sym e ∙ ap (λ s. inv a ⊗ s) h ∙ mul-zero F (inv a)

  pub pow-zero : (a : K) → pow F a 0 ≡ 𝟙
  unfolding pow
  pow-zero a = refl

  pub pow-suc : (a : K) (n : ℕ) → pow F a (suc n) ≡ a ⊗ pow F a n
  unfolding pow
  pow-suc a n = refl

  pub pow-one : (a : K) → pow F a 1 ≡ a
  pow-one a = pow-suc a 0 ∙ ap (λ s. a ⊗ s) (pow-zero a) ∙ mul-one F a

  pub one-pow : (n : ℕ) → pow F 𝟙 n ≡ 𝟙
  one-pow zero = pow-zero 𝟙
  one-pow (suc n) = rw (pow-suc, one-pow n) (one-mul F 𝟙)

  pub mul-pow : (a b : K) (n : ℕ) → pow F (a ⊗ b) n ≡ pow F a n ⊗ pow F b n
  mul-pow a b zero = simp (pow-zero, ring)
  mul-pow a b (suc n) = simp (pow-suc, mul-pow a b n, ring)

  pub pow-add : (a : K) (n m : ℕ) → pow F a (n + m) ≡ pow F a n ⊗ pow F a m
  pow-add a zero m = rw (nat-zero-add, pow-zero) (sym (one-mul F _))
  pow-add a (suc n) m = rw suc-add (simp (pow-suc, pow-add a n m, ring))

  pub pow-mul : (a : K) (n m : ℕ) → pow F a (n * m) ≡ pow F (pow F a n) m
  pow-mul a zero m = rw (nat-zero-mul, pow-zero) (sym (one-pow m))
  pow-mul a (suc n) m = rw (suc-mul, pow-suc, mul-pow, pow-add, pow-mul a n m) (simp ring)

  pub pow-swap : (a : K) (n m : ℕ) → pow F (pow F a n) m ≡ pow F (pow F a m) n
  pow-swap a n m = sym (pow-mul a n m) ∙ ap (pow F a) (nat-mul-comm n m) ∙ pow-mul a m n

  pub pow-ne-zero : {a : K} (n : ℕ) → ¬ (a ≡ 𝟘) → ¬ (pow F a n ≡ 𝟘)
  pow-ne-zero {a} zero h = rw (pow-zero a) one-ne-zero
  pow-ne-zero {a} (suc n) h = rw (pow-suc a n) λ z. pow-ne-zero n h (mul-cancel h z)
