-- Laws: the turns over the bits make the sum of products.
use Rattle.std.specs.Prelude.{◌≡◌, List}
use Rattle.std.proofs.Math.Path.{refl, sym, ap, ap₂}
use Rattle.std.proofs.Common.{◌∙◌, mod-lt, mod-eq_of_lt, div-add-mod', zero-lt-suc, div-le_self, lit<}
use Prim.Native.Nat.{ℕ, zero, suc, ◌+◌, ◌*◌, ◌/◌, ◌%◌, ◌^◌, ◌≤◌, ◌<◌}
use Rattle.std.proofs.Math.Nat.{div-eq_of_lt}
use native.Mathlib.Omega.{arith}
use Rattle.std.proofs.Math.ListN.{get_or}
use Rattle.binary_field.specs.Xor.{◌⊕◌, masked}
use Rattle.binary_field.specs.XorLaws.{⊕-shifted, digit-cases, sums}
use Rattle.binary_field.specs.Product.{double, product}
use Rattle.binary_field.specs.ProductLaws.{double-low, double-zero, double-add, add-product, double-product, zero-product, one_product}
use Rattle.binary_field.specs.Sum.{sum_below}
use Rattle.binary_field.specs.SumLaws.{sum-none, sum-suc, sum-ext, sum-zero, sum-add, sum-append}
use Rattle.block_tables.specs.Table.{bit_at, selector, IsTables, looked, turns}
use Rattle.block_tables.specs.SelectorLaws.{bit-small, bits_left, bits-all, selector-digit, selector-rest}
use Rattle.block_tables.specs.ChosenLaws.{chosen-four}

-- a product by the bits of one factor, the lowest last
pub product-turn : (a b : ℕ) → a < 256 → b < 256 → product 8 285 b a ≡ double 8 285 (product 8 285 (b / 2) a) ⊕ masked (b % 2) a
unfolding masked
product-turn a b ha hb =
    let d : b / 2 * 2 + b % 2 ≡ b = div-add-mod' b 2 in
    let l : b % 2 < 2 = mod-lt b (zero-lt-suc 1) in
    let h : b / 2 < 256 = omega arith in
    let s : b / 2 * 2 < 256 = omega arith in
    ap (λ x. product 8 285 x a) (sym d ∙ sym (⊕-shifted (b / 2) 1 (b % 2) l))
    ∙ add-product 8 285 (b / 2 * 2) (b % 2) a
    ∙ ap₂ ◌⊕◌ (ap (λ x. product 8 285 x a) (sym (double-low 8 285 (b / 2) s)) ∙ double-product 8 285 (b / 2) a h)
    (digit-cases (λ x. product 8 285 x a ≡ masked x a) (zero-product 8 285 a) (one_product 8 285 (lit< tt) a ∙ mod-eq_of_lt ha) b)

double-sum : (n : ℕ) (f : ℕ → ℕ) → double 8 285 (sum_below n f) ≡ sum_below n (λ i. double 8 285 (f i))
double-sum zero f = ap (double 8 285) (sum-none f) ∙ double-zero 8 285 ∙ sym (sum-none _)
double-sum (suc n) f =
    ap (double 8 285) (sum-suc n f) ∙ double-add 8 285 (sum_below n f) (f n) ∙ ap (λ s. s ⊕ double 8 285 (f n)) (double-sum n f)
    ∙ sym (sum-suc n (λ i. double 8 285 (f i)))

-- four terms
four : (f : ℕ → ℕ) → sum_below 4 f ≡ f 0 ⊕ (f 1 ⊕ (f 2 ⊕ f 3))
unfolding sum_below
four f = simp sums

-- four terms at a time
pub sum-fours : (n : ℕ) (f : ℕ → ℕ) → sum_below n (λ s. sum_below 4 (λ e. f (s * 4 + e))) ≡ sum_below (n * 4) f
sum-fours zero f = sum-none _ ∙ sym (sum-none f)
sum-fours (suc n) f =
    sum-suc n _ ∙ ap (λ s. s ⊕ sum_below 4 (λ e. f (n * 4 + e))) (sum-fours n f) ∙ sym (sum-append (n * 4) 4 f)
    ∙ (let e : n * 4 + 4 ≡ suc n * 4 = omega arith in ap (λ k. sum_below k f) e)

-- one turn, as the code takes it
module _ (t : List ℕ) (i n a b c d r next : ℕ) where
  pub turn-taken : next ≡ double 8 285 r ⊕ get_or t (a % 16 * 96 + i) 0 ⊕ get_or t (b % 16 * 96 + 1536 + i) 0 ⊕ get_or t (c % 16 * 96 + 3072 + i) 0
      ⊕ get_or t (d % 16 * 96 + 4608 + i) 0 → turns t i n (a / 16) (b / 16) (c / 16) (d / 16) next ≡ turns t i (suc n) a b c d r
  unfolding turns looked
  turn-taken e = ap (turns t i n (a / 16) (b / 16) (c / 16) (d / 16)) (e ∙ regroup _ _ _ _ _)
    where
      regroup : (o p q u v : ℕ) → o ⊕ p ⊕ q ⊕ u ⊕ v ≡ o ⊕ (p ⊕ q ⊕ u ⊕ v)
      regroup o p q u v = simp sums

  pub turns-none : turns t i 0 a b c d r ≡ r
  unfolding turns
  turns-none = refl

module _ (t : List ℕ) (T : IsTables t) (i : ℕ) (in-strip : i < 96) (k : ℕ → ℕ) (byte : (j : ℕ) → k j < 256)
    (cell : (p : ℕ) → get_or t p 0 < 256) where
  -- block e of table s
  abbrev y : ℕ → ℕ → ℕ
  y s e = get_or t (s * 1536 + (2 ^ e * 96 + i)) 0

  -- the sums of products by what is left of the constants after n bits
  abbrev left : ℕ → ℕ
  left n = sum_below 4 (λ s. sum_below 4 (λ e. product 8 285 (k (s * 4 + e) / 2 ^ n) (y s e)))

  abbrev sel : ℕ → ℕ → ℕ
  sel n s = selector n (k (s * 4 + 0)) (k (s * 4 + 1)) (k (s * 4 + 2)) (k (s * 4 + 3))

  -- what one digit names
  digit : (n s : ℕ) → s < 4 → get_or t (s * 1536 + (sel (suc n) s % 16 * 96 + i)) 0 ≡ sum_below 4 (λ e. masked (bit_at n (k (s * 4 + e))) (y s e))
  digit n s l =
      let a : ℕ = bit_at n (k (s * 4 + 0)) in
      let b : ℕ = bit_at n (k (s * 4 + 1)) in
      let c : ℕ = bit_at n (k (s * 4 + 2)) in
      let d : ℕ = bit_at n (k (s * 4 + 3)) in
      let ha : a < 2 = bit-small n (k (s * 4 + 0)) in
      let hb : b < 2 = bit-small n (k (s * 4 + 1)) in
      let hc : c < 2 = bit-small n (k (s * 4 + 2)) in
      let hd : d < 2 = bit-small n (k (s * 4 + 3)) in
      ap (λ x. get_or t (s * 1536 + (x * 96 + i)) 0) (selector-digit n (k (s * 4 + 0)) (k (s * 4 + 1)) (k (s * 4 + 2)) (k (s * 4 + 3)))
      ∙ T.each s (a + b * 2 + c * 4 + d * 8) i l (omega arith) in-strip ∙ chosen-four a b c d (y s) ha hb hc hd
      ∙ sym (four (λ e. masked (bit_at n (k (s * 4 + e))) (y s e)))

  looked-sum : (v : ℕ → ℕ) → looked t i (v 0) (v 1) (v 2) (v 3) ≡ sum_below 4 (λ s. get_or t (s * 1536 + (v s * 96 + i)) 0)
  unfolding looked
  looked-sum v =
      let a : v 0 * 96 + i ≡ 0 * 1536 + (v 0 * 96 + i) = omega arith in
      let b : v 1 * 96 + 1536 + i ≡ 1 * 1536 + (v 1 * 96 + i) = omega arith in
      let c : v 2 * 96 + 3072 + i ≡ 2 * 1536 + (v 2 * 96 + i) = omega arith in
      let d : v 3 * 96 + 4608 + i ≡ 3 * 1536 + (v 3 * 96 + i) = omega arith in
      ap₂ ◌⊕◌ (ap₂ ◌⊕◌ (ap₂ ◌⊕◌ (ap (λ x. get_or t x 0) a) (ap (λ x. get_or t x 0) b)) (ap (λ x. get_or t x 0) c)) (ap (λ x. get_or t x 0) d)
      ∙ regroup _ _ _ _ ∙ sym (four (λ s. get_or t (s * 1536 + (v s * 96 + i)) 0))
    where
      regroup : (p q r s : ℕ) → p ⊕ q ⊕ r ⊕ s ≡ p ⊕ (q ⊕ (r ⊕ s))
      regroup p q r s = simp sums

  -- one term of one turn
  term : (n s e : ℕ) → double 8 285 (product 8 285 (k (s * 4 + e) / 2 ^ suc n) (y s e)) ⊕ masked (bit_at n (k (s * 4 + e))) (y s e)
      ≡ product 8 285 (k (s * 4 + e) / 2 ^ n) (y s e)
  term n s e =
      let j : ℕ = s * 4 + e in
      let b : k j / 2 ^ n ≤ k j = div-le_self (k j) (2 ^ n) in
      let h : k j < 256 = byte j in
      ap (λ x. double 8 285 (product 8 285 x (y s e)) ⊕ masked (bit_at n (k j)) (y s e)) (sym (bits_left n (k j)))
      ∙ sym (product-turn (y s e) (k j / 2 ^ n) (cell _) (omega arith))

  turn : (n : ℕ) → double 8 285 (left (suc n)) ⊕ looked t i (sel (suc n) 0 % 16) (sel (suc n) 1 % 16) (sel (suc n) 2 % 16) (sel (suc n) 3 % 16) ≡ left n
  turn n =
      ap₂ ◌⊕◌ (double-sum 4 _ ∙ sum-ext 4 _ _ (λ s _. double-sum 4 _))
      (looked-sum (λ s. sel (suc n) s % 16) ∙ sum-ext 4 _ _ (λ s l. digit n s l))
      ∙ sym (sum-add 4 _ _)
      ∙ sum-ext 4 _ _ (λ s _. sym (sum-add 4 _ _) ∙ sum-ext 4 _ _ (λ e _. term n s e))

  pub turns-left : (n r : ℕ) → r ≡ left n → turns t i n (sel n 0) (sel n 1) (sel n 2) (sel n 3) r ≡ left 0
  unfolding turns
  turns-left zero r h = h
  turns-left (suc n) r h =
      next _ (selector-rest n (k (0 * 4 + 0)) (k (0 * 4 + 1)) (k (0 * 4 + 2)) (k (0 * 4 + 3)))
      (selector-rest n (k (1 * 4 + 0)) (k (1 * 4 + 1)) (k (1 * 4 + 2)) (k (1 * 4 + 3)))
      (selector-rest n (k (2 * 4 + 0)) (k (2 * 4 + 1)) (k (2 * 4 + 2)) (k (2 * 4 + 3)))
      (selector-rest n (k (3 * 4 + 0)) (k (3 * 4 + 1)) (k (3 * 4 + 2)) (k (3 * 4 + 3)))
      ∙ turns-left n _ (ap (λ x. double 8 285 x ⊕ looked t i (sel (suc n) 0 % 16) (sel (suc n) 1 % 16) (sel (suc n) 2 % 16) (sel (suc n) 3 % 16)) h ∙ turn n)
    where
      next : (x : ℕ) {a b c d p q u v : ℕ} → a ≡ p → b ≡ q → c ≡ u → d ≡ v → turns t i n a b c d x ≡ turns t i n p q u v x
      next x ea eb ec ed = cc

  -- all eight bits
  pub turns-sum : turns t i 8 (sel 8 0) (sel 8 1) (sel 8 2) (sel 8 3) 0 ≡ sum_below 4 (λ s. sum_below 4 (λ e. product 8 285 (k (s * 4 + e)) (y s e)))
  turns-sum = turns-left 8 0 (sym none) ∙ sum-ext 4 _ _ (λ s _. sum-ext 4 _ _ (λ e _. ap (λ x. product 8 285 x (y s e)) (sym (bits-all (k (s * 4 + e))))))
    where
      none : left 8 ≡ 0
      none = sum-zero 4 _ (λ s _. sum-zero 4 _ (λ e _. ap (λ x. product 8 285 x (y s e)) (div-eq_of_lt (byte (s * 4 + e))) ∙ zero-product 8 285 (y s e)))
