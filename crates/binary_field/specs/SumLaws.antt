-- Laws: Sums of the field over the numbers below n.
use Rattle.std.specs.Prelude.{◌≡◌, refl, List, ℕ, zero, suc, ◌+◌, ◌-◌, ◌≤◌, ◌<◌, ◌^◌, min, length, get_or}
use Rattle.std.proofs.Common.{sym, ap, ap₂, ◌∙◌, add-suc, add-zero, arith, pow_pos}
use Rattle.std.proofs.Math.Decide.{dec_le, ℕ_discrete}
use Rattle.std.proofs.Math.ListN.{get_or-eq_default}
use Rattle.binary_field.specs.Xor.{◌⊕◌}
use Rattle.binary_field.specs.XorLaws.{⊕-self, ⊕-swap, ⊕-assoc, ⊕-zero-l, ⊕-zero-r, ⊕-lt}
use Rattle.binary_field.specs.Product.{product}
use Rattle.binary_field.specs.ProductLaws.{product-comm, product-add, product-zero}
use Rattle.binary_field.specs.Sum.{sum_below, inner_product}

pub sum-none : (f : ℕ → ℕ) → sum_below 0 f ≡ 0
unfolding sum_below
sum-none f = refl

pub sum-suc : (n : ℕ) (f : ℕ → ℕ) → sum_below (suc n) f ≡ sum_below n f ⊕ f n
unfolding sum_below
sum-suc n f = refl

pub sum-ext : (n : ℕ) (f g : ℕ → ℕ) → ((i : ℕ) → i < n → f i ≡ g i) → sum_below n f ≡ sum_below n g
unfolding sum_below
sum-ext zero f g h = refl
sum-ext (suc n) f g h = ap₂ ◌⊕◌ (sum-ext n f g (λ i l. h i (omega arith))) (h n (omega arith))

pub sum-zero : (n : ℕ) (f : ℕ → ℕ) → ((i : ℕ) → i < n → f i ≡ 0) → sum_below n f ≡ 0
unfolding sum_below
sum-zero zero f h = refl
sum-zero (suc n) f h = ap₂ ◌⊕◌ (sum-zero n f (λ i l. h i (omega arith))) (h n (omega arith)) ∙ ⊕-self 0

pub sum-add : (n : ℕ) (f g : ℕ → ℕ) → sum_below n (λ i. f i ⊕ g i) ≡ sum_below n f ⊕ sum_below n g
unfolding sum_below
sum-add zero f g = sym (⊕-self 0)
sum-add (suc n) f g = ap (λ s. s ⊕ (f n ⊕ g n)) (sum-add n f g) ∙ ⊕-swap (sum_below n f) (sum_below n g) (f n) (g n)

-- the first n and the i after them
pub sum-append : (n i : ℕ) (f : ℕ → ℕ) → sum_below (n + i) f ≡ sum_below n f ⊕ sum_below i (λ j. f (n + j))
unfolding sum_below
sum-append n zero f = ap (λ x. sum_below x f) (add-zero n) ∙ sym (⊕-zero-r (sum_below n f))
sum-append n (suc i) f =
    ap (λ x. sum_below x f) (add-suc n i) ∙ ap (λ s. s ⊕ f (n + i)) (sum-append n i f)
    ∙ ⊕-assoc (sum_below n f) (sum_below i (λ j. f (n + j))) (f (n + i))

pub sum_lt : (k n : ℕ) (f : ℕ → ℕ) → ((i : ℕ) → i < n → f i < 2 ^ k) → sum_below n f < 2 ^ k
unfolding sum_below
sum_lt k zero f h = pow_pos k
sum_lt k (suc n) f h = ⊕-lt k (sum_below n f) (f n) (sum_lt k n f (λ i l. h i (omega arith))) (h n (omega arith))

pub sum-scale : (k m n c : ℕ) (f : ℕ → ℕ) → sum_below n (λ i. product k m c (f i)) ≡ product k m c (sum_below n f)
unfolding sum_below
sum-scale k m zero c f = sym (product-zero k m c)
sum-scale k m (suc n) c f = ap (λ s. s ⊕ product k m c (f n)) (sum-scale k m n c f) ∙ sym (product-add k m c (sum_below n f) (f n))

pub inner-none : (k m : ℕ) (u v : List ℕ) → inner_product k m 0 u v ≡ 0
unfolding inner_product
inner-none k m u v = sum-none _

pub inner-suc : (k m n : ℕ) (u v : List ℕ) → inner_product k m (suc n) u v ≡ inner_product k m n u v ⊕ product k m (get_or u n 0) (get_or v n 0)
unfolding inner_product
inner-suc k m n u v = sum-suc n _

-- a list counts as followed by zeros
pub inner-short : (k m i n : ℕ) (u v : List ℕ) → i ≤ n → length v ≤ i → inner_product k m n u v ≡ inner_product k m i u v
unfolding inner_product
inner-short k m i n u v l h =
    let w : n ≡ i + (n - i) = omega arith in
    ap (λ x. sum_below x (λ j. product k m (get_or u j 0) (get_or v j 0))) w ∙ sum-append i (n - i) (λ j. product k m (get_or u j 0) (get_or v j 0))
    ∙ ap (λ s. sum_below i (λ j. product k m (get_or u j 0) (get_or v j 0)) ⊕ s)
    (sum-zero (n - i) _ (λ j _. let b : length v ≤ i + j = omega arith in ap (product k m (get_or u (i + j) 0)) (get_or-eq_default v 0 b)
    ∙ product-zero k m (get_or u (i + j) 0)))
    ∙ ⊕-zero-r _

pub inner-whole : (k m i : ℕ) (u v : List ℕ) → i ≡ min (length u) (length v) → inner_product k m (length u) u v ≡ inner_product k m i u v
inner-whole k m i u v e = elim (dec_le (length u) (length v)) [
  | yes h ↦ (let w : length u ≡ i = omega arith in ap (λ n. inner_product k m n u v) w)
  | no h ↦ inner-short k m i (length u) u v (omega arith) (omega arith)
]

-- a double sum, in either order
pub sum-swap : (n i : ℕ) (f : ℕ → ℕ → ℕ) → sum_below n (λ a. sum_below i (f a)) ≡ sum_below i (λ b. sum_below n (λ a. f a b))
sum-swap zero i f = sum-none _ ∙ sym (sum-zero i _ (λ b _. sum-none _))
sum-swap (suc n) i f =
    sum-suc n _ ∙ ap (λ s. s ⊕ sum_below i (f n)) (sum-swap n i f) ∙ sym (sum-add i (λ b. sum_below n (λ a. f a b)) (f n))
    ∙ sum-ext i _ _ (λ b _. sym (sum-suc n (λ a. f a b)))

-- a sum of which one term alone is not 0
pub sum-single : (n j : ℕ) (f : ℕ → ℕ) → j < n → ((i : ℕ) → i < n → ¬ (i ≡ j) → f i ≡ 0) → sum_below n f ≡ f j
sum-single zero j f h z = absurd (omega arith)
sum-single (suc n) j f h z = elim (ℕ_discrete j n) [
  | yes e ↦
      sum-suc n f ∙ ap (λ s. s ⊕ f n) (sum-zero n f (λ i l. z i (omega arith) (λ q. omega arith))) ∙ ⊕-zero-l (f n) ∙ ap f (sym e)
  | no d ↦
      sum-suc n f ∙ ap (λ s. sum_below n f ⊕ s) (z n (omega arith) (λ q. d (sym q))) ∙ ⊕-zero-r (sum_below n f)
      ∙ sum-single n j f (omega arith) (λ i l. z i (omega arith))
]

-- a factor on the right
pub scale-sum : (k m n c : ℕ) (f : ℕ → ℕ) → sum_below n (λ i. product k m (f i) c) ≡ product k m (sum_below n f) c
scale-sum k m n c f = sum-ext n _ _ (λ i _. product-comm k m (f i) c) ∙ sum-scale k m n c f ∙ product-comm k m c (sum_below n f)
