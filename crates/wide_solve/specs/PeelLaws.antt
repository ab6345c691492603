-- Laws: The symbols of t places from the power sums that they make with the places' locators. The last of k + 1 places is taken out of the sums:
-- what is left are k power sums of the others, each symbol times the difference of its locator and the last.
use Rattle.std.specs.Prelude.{◌≡◌, refl, List, [], ◌∷◌, ℕ, zero, suc, ◌^◌, ◌<◌, ◌≤◌, get_or}
use Rattle.std.proofs.Common.{sym, ◌∙◌, arith, lit<}
use Rattle.std.proofs.Math.Path.{ap, ap₂}
use Rattle.binary_field.specs.Xor.{◌⊕◌}
use Rattle.binary_field.specs.XorLaws.{⊕-assoc, ⊕-comm, ⊕-zero-l, ⊕-lt, sums}
use Rattle.binary_field.specs.Product.{product}
use Rattle.binary_field.specs.ProductLaws.{product-left-comm, product_lt, product-one, ring}
use Rattle.binary_field.specs.Power.{power}
use Rattle.binary_field.specs.PowerLaws.{power_zero, power-suc}
use Rattle.binary_field.specs.Sum.{sum_below}
use Rattle.binary_field.specs.SumLaws.{sum-none, sum-suc, sum-ext, sum-add, sum-scale}
use Rattle.wide_solve.specs.Peel.{HasSums}

module _ (k m : ℕ) (pos : 0 < k) where
  unit : (x u : ℕ) → u < 2 ^ k → product k m u (power k m x 0) ≡ u
  unit x u h = ap (product k m u) (power_zero k m x) ∙ product-one k m pos u h

  module _ (n : ℕ) (x u v s r : ℕ → ℕ) (small : (i : ℕ) → i ≤ n → v i < 2 ^ k) (less : (e : ℕ) → e < n → r e ≡ s (suc e) ⊕ product k m (x n) (s e))
      (rest : HasSums k m n x u r) (parts : (i : ℕ) → i < n → product k m (x i ⊕ x n) (v i) ≡ u i) (last : v n ≡ s 0 ⊕ sum_below n v) where
    total : ℕ → ℕ
    total e = sum_below (suc n) (λ i. product k m (v i) (power k m (x i) e))

    first : total 0 ≡ s 0
    unfolding total
    first =
        sum-ext (suc n) _ v (λ i h. unit (x i) (v i) (small i (omega arith))) ∙ sum-suc n v ∙ ap (λ a. sum_below n v ⊕ a) last
        ∙ ⊕-comm (sum_below n v) (s 0 ⊕ sum_below n v) ∙ ⊕-assoc (s 0) (sum_below n v) (sum_below n v) ∙ again
      where
        again : s 0 ⊕ (sum_below n v ⊕ sum_below n v) ≡ s 0
        again = simp sums

    -- one term: v·x^(e+1) is u·x^e and the last locator times v·x^e
    term : (e i : ℕ) → i < n
        → product k m (v i) (power k m (x i) (suc e)) ≡ product k m (u i) (power k m (x i) e) ⊕ product k m (x n) (product k m (v i) (power k m (x i) e))
    term e i h =
        ap (product k m (v i)) (power-suc k m (x i) e)
        ∙ shape (v i) (x i) (x n) (power k m (x i) e)
        ∙ ap (λ a. product k m a (power k m (x i) e) ⊕ product k m (x n) (product k m (v i) (power k m (x i) e))) (parts i h)
      where
        shape : (a y z p : ℕ) → product k m a (product k m y p) ≡ product k m (product k m (y ⊕ z) a) p ⊕ product k m z (product k m a p)
        shape a y z p = simp ring

    next : (e : ℕ) → e < n → total e ≡ s e → total (suc e) ≡ s (suc e)
    unfolding total
    next e h ih =
        sum-suc n _
        ∙ ap₂ ◌⊕◌
        (sum-ext n _ _ (term e) ∙ sum-add n _ _ ∙ ap₂ ◌⊕◌ (rest e h ∙ less e h) (sum-scale k m n (x n) (λ i. product k m (v i) (power k m (x i) e))))
        (ap (product k m (v n)) (power-suc k m (x n) e) ∙ product-left-comm k m (v n) (x n) (power k m (x n) e))
        ∙ gather (s (suc e)) (x n) (s e) (sum_below n (λ i. product k m (v i) (power k m (x i) e))) (product k m (v n) (power k m (x n) e))
        (sym (sum-suc n (λ i. product k m (v i) (power k m (x i) e))) ∙ ih)
      where
        gather : (a y b p q : ℕ) → p ⊕ q ≡ b → ((a ⊕ product k m y b) ⊕ product k m y p) ⊕ product k m y q ≡ a
        gather a y b p q e = ap (λ b. ((a ⊕ product k m y b) ⊕ product k m y p) ⊕ product k m y q) (sym e) ∙ closed
          where
            closed : ((a ⊕ product k m y (p ⊕ q)) ⊕ product k m y p) ⊕ product k m y q ≡ a
            closed = simp ring

    upto : (e : ℕ) → e < suc n → total e ≡ s e
    upto zero h = first
    upto (suc e) h = next e (omega arith) (upto e (omega arith))

    pub peel : HasSums k m (suc n) x v s
    unfolding total
    peel = upto

-- ---- two, three and four places; x, s and v are lists, and past their end all is 0
abbrev at : List ℕ → ℕ → ℕ
at l i = get_or l i 0

sum_one : (f : ℕ → ℕ) → sum_below 1 f ≡ f 0
sum_one f = sum-suc 0 f ∙ ap (λ s. s ⊕ f 0) (sum-none f) ∙ ⊕-zero-l (f 0)

sum-two : (f : ℕ → ℕ) → sum_below 2 f ≡ f 0 ⊕ f 1
sum-two f = sum-suc 1 f ∙ ap (λ s. s ⊕ f 1) (sum_one f)

sum-three : (f : ℕ → ℕ) → sum_below 3 f ≡ (f 0 ⊕ f 1) ⊕ f 2
sum-three f = sum-suc 2 f ∙ ap (λ s. s ⊕ f 2) (sum-two f)

-- the only place holds the first sum
pub has_one : (x u s : ℕ → ℕ) → u 0 ≡ s 0 → u 0 < 65536 → HasSums 16 69643 1 x u s
has_one x u s e h zero l = sum_one _ ∙ unit 16 69643 (lit< tt) (x 0) (u 0) h ∙ e
has_one x u s e h (suc i) l = absurd (omega arith)

module _ (x s : List ℕ) (low : at s 0 < 65536) where
  pub has-two : (p : ℕ) → p < 65536 → product 16 69643 (at x 0 ⊕ at x 1) p ≡ at s 1 ⊕ product 16 69643 (at x 1) (at s 0)
      → HasSums 16 69643 2 (at x) (at (p ∷ (at s 0 ⊕ p) ∷ 0 ∷ 0 ∷ [])) (at s)
  has-two p hp e =
      peel 16 69643 (lit< tt) 1 (at x) (λ _. product 16 69643 (at x 0 ⊕ at x 1) p) (at v) (at s) (λ _. product 16 69643 (at x 0 ⊕ at x 1) p) small less
      (has_one (at x) _ _ refl (product_lt 16 69643 (at x 0 ⊕ at x 1) p)) parts (ap (λ a. at s 0 ⊕ a) (sym (sum_one (at v))))
    where
      v : List ℕ
      v = p ∷ (at s 0 ⊕ p) ∷ 0 ∷ 0 ∷ []

      small : (i : ℕ) → i ≤ 1 → at v i < 65536
      small zero l = hp
      small (suc zero) l = ⊕-lt 16 (at s 0) p low hp
      small (suc (suc i)) l = absurd (omega arith)

      less : (i : ℕ) → i < 1 → product 16 69643 (at x 0 ⊕ at x 1) p ≡ at s (suc i) ⊕ product 16 69643 (at x 1) (at s i)
      less zero l = e
      less (suc i) l = absurd (omega arith)

      parts : (i : ℕ) → i < 1 → product 16 69643 (at x i ⊕ at x 1) (at v i) ≡ product 16 69643 (at x 0 ⊕ at x 1) p
      parts zero l = refl
      parts (suc i) l = absurd (omega arith)

  pub has-three : (u : List ℕ) (a b p q : ℕ) → p < 65536 → q < 65536
      → a ≡ at s 1 ⊕ product 16 69643 (at x 2) (at s 0) → b ≡ at s 2 ⊕ product 16 69643 (at x 2) (at s 1)
      → HasSums 16 69643 2 (at x) (at u) (at (a ∷ b ∷ 0 ∷ 0 ∷ 0 ∷ 0 ∷ []))
      → product 16 69643 (at x 0 ⊕ at x 2) p ≡ at u 0 → product 16 69643 (at x 1 ⊕ at x 2) q ≡ at u 1
      → HasSums 16 69643 3 (at x) (at (p ∷ q ∷ (at s 0 ⊕ (p ⊕ q)) ∷ 0 ∷ [])) (at s)
  has-three u a b p q hp hq ea eb rest ep eq =
      peel 16 69643 (lit< tt) 2 (at x) (at u) (at v) (at s) (at (a ∷ b ∷ 0 ∷ 0 ∷ 0 ∷ 0 ∷ [])) small less rest parts
      (ap (λ z. at s 0 ⊕ z) (sym (sum-two (at v))))
    where
      v : List ℕ
      v = p ∷ q ∷ (at s 0 ⊕ (p ⊕ q)) ∷ 0 ∷ []

      small : (i : ℕ) → i ≤ 2 → at v i < 65536
      small zero l = hp
      small (suc zero) l = hq
      small (suc (suc zero)) l = ⊕-lt 16 (at s 0) (p ⊕ q) low (⊕-lt 16 p q hp hq)
      small (suc (suc (suc i))) l = absurd (omega arith)

      less : (i : ℕ) → i < 2 → at (a ∷ b ∷ 0 ∷ 0 ∷ 0 ∷ 0 ∷ []) i ≡ at s (suc i) ⊕ product 16 69643 (at x 2) (at s i)
      less zero l = ea
      less (suc zero) l = eb
      less (suc (suc i)) l = absurd (omega arith)

      parts : (i : ℕ) → i < 2 → product 16 69643 (at x i ⊕ at x 2) (at v i) ≡ at u i
      parts zero l = ep
      parts (suc zero) l = eq
      parts (suc (suc i)) l = absurd (omega arith)

  pub has-four : (u : List ℕ) (a b c p q r : ℕ) → p < 65536 → q < 65536 → r < 65536
      → a ≡ at s 1 ⊕ product 16 69643 (at x 3) (at s 0) → b ≡ at s 2 ⊕ product 16 69643 (at x 3) (at s 1) → c ≡ at s 3 ⊕ product 16 69643 (at x 3) (at s 2)
      → HasSums 16 69643 3 (at x) (at u) (at (a ∷ b ∷ c ∷ 0 ∷ 0 ∷ 0 ∷ []))
      → product 16 69643 (at x 0 ⊕ at x 3) p ≡ at u 0 → product 16 69643 (at x 1 ⊕ at x 3) q ≡ at u 1 → product 16 69643 (at x 2 ⊕ at x 3) r ≡ at u 2
      → HasSums 16 69643 4 (at x) (at (p ∷ q ∷ r ∷ (at s 0 ⊕ ((p ⊕ q) ⊕ r)) ∷ [])) (at s)
  has-four u a b c p q r hp hq hr ea eb ec rest ep eq er =
      peel 16 69643 (lit< tt) 3 (at x) (at u) (at v) (at s) (at (a ∷ b ∷ c ∷ 0 ∷ 0 ∷ 0 ∷ [])) small less rest parts
      (ap (λ z. at s 0 ⊕ z) (sym (sum-three (at v))))
    where
      v : List ℕ
      v = p ∷ q ∷ r ∷ (at s 0 ⊕ ((p ⊕ q) ⊕ r)) ∷ []

      small : (i : ℕ) → i ≤ 3 → at v i < 65536
      small zero l = hp
      small (suc zero) l = hq
      small (suc (suc zero)) l = hr
      small (suc (suc (suc zero))) l = ⊕-lt 16 (at s 0) ((p ⊕ q) ⊕ r) low (⊕-lt 16 (p ⊕ q) r (⊕-lt 16 p q hp hq) hr)
      small (suc (suc (suc (suc i)))) l = absurd (omega arith)

      less : (i : ℕ) → i < 3 → at (a ∷ b ∷ c ∷ 0 ∷ 0 ∷ 0 ∷ []) i ≡ at s (suc i) ⊕ product 16 69643 (at x 3) (at s i)
      less zero l = ea
      less (suc zero) l = eb
      less (suc (suc zero)) l = ec
      less (suc (suc (suc i))) l = absurd (omega arith)

      parts : (i : ℕ) → i < 3 → product 16 69643 (at x i ⊕ at x 3) (at v i) ≡ at u i
      parts zero l = ep
      parts (suc zero) l = eq
      parts (suc (suc zero)) l = er
      parts (suc (suc (suc i))) l = absurd (omega arith)
