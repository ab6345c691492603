-- Laws: Counts and totals over the numbers below n.
use Rattle.std.specs.Prelude.{◌≡◌, refl, Bool, true, false, ℕ, zero, suc, ◌+◌, ◌-◌, ◌*◌, ◌≤◌, ◌<◌}
use Rattle.std.proofs.Common.{sym, ap, ap₂, ◌∙◌, subst, add-zero, add-suc, add_assoc, zero-mul, suc-mul, arith}
use Rattle.std.proofs.Math.Decide.{ℕ_discrete}
use Rattle.counting.specs.Count.{one, total_below, count_below}

pub total-none : (f : ℕ → ℕ) → total_below 0 f ≡ 0
unfolding total_below
total-none f = refl

pub total-suc : (n : ℕ) (f : ℕ → ℕ) → total_below (suc n) f ≡ total_below n f + f n
unfolding total_below
total-suc n f = refl

pub total_ext : (n : ℕ) (f g : ℕ → ℕ) → ((i : ℕ) → i < n → f i ≡ g i) → total_below n f ≡ total_below n g
unfolding total_below
total_ext zero f g h = refl
total_ext (suc n) f g h = ap₂ ◌+◌ (total_ext n f g (λ i l. h i (omega arith))) (h n (omega arith))

pub total-le : (n : ℕ) (f g : ℕ → ℕ) → ((i : ℕ) → i < n → f i ≤ g i) → total_below n f ≤ total_below n g
unfolding total_below
total-le zero f g h = omega arith
total-le (suc n) f g h = let l = total-le n f g (λ i l. h i (omega arith)) in let k = h n (omega arith) in omega arith

pub count-le : (n : ℕ) (f : ℕ → Bool) → count_below n f ≤ n
unfolding total_below
count-le zero f = omega arith
count-le (suc n) f = let l = count-le n f in let k : one (f n) ≤ 1 = at_most (f n) in omega arith
  where
    at_most : (v : Bool) → one v ≤ 1
    at_most true = omega arith
    at_most false = omega arith

pub total-zero : (n : ℕ) (f : ℕ → ℕ) → ((i : ℕ) → i < n → f i ≡ 0) → total_below n f ≡ 0
unfolding total_below
total-zero zero f h = refl
total-zero (suc n) f h = ap₂ ◌+◌ (total-zero n f (λ i l. h i (omega arith))) (h n (omega arith))

-- the first n and the i after them
pub total-append : (n i : ℕ) (f : ℕ → ℕ) → total_below (n + i) f ≡ total_below n f + total_below i (λ j. f (n + j))
unfolding total_below
total-append n zero f = ap (λ x. total_below x f) (add-zero n) ∙ sym (add-zero (total_below n f))
total-append n (suc i) f =
    ap (λ x. total_below x f) (add-suc n i) ∙ ap (λ s. s + f (n + i)) (total-append n i f)
    ∙ add_assoc (total_below n f) (total_below i (λ j. f (n + j))) (f (n + i))

pub count-ext : (n : ℕ) (f g : ℕ → Bool) → ((i : ℕ) → i < n → f i ≡ g i) → count_below n f ≡ count_below n g
count-ext n f g h = total_ext n _ _ (λ i l. ap one (h i l))

-- two totals that differ by one at one number
pub total-bump : (n j : ℕ) (f g : ℕ → ℕ) → j < n → ((i : ℕ) → i < n → ¬ (i ≡ j) → f i ≡ g i) → f j ≡ suc (g j) → total_below n f ≡ suc (total_below n g)
total-bump zero j f g h same e = absurd (omega arith)
total-bump (suc n) j f g h same e = elim (ℕ_discrete j n) [
  | yes q ↦
      (let a : total_below n f ≡ total_below n g = total_ext n f g (λ i l. same i (omega arith) (λ z. omega arith)) in
      let b : f n ≡ suc (g n) = subst (λ i. f i ≡ suc (g i)) q e in
      omega (arith, total-suc n f, total-suc n g))
  | no q ↦
      (let a : total_below n f ≡ suc (total_below n g) = total-bump n j f g (omega arith) (λ i l. same i (omega arith)) e in
      let b : f n ≡ g n = same n (omega arith) (λ z. q (sym z)) in
      omega (arith, total-suc n f, total-suc n g))
]

-- term by term
pub total-sum : (n : ℕ) (f g : ℕ → ℕ) → total_below n (λ i. f i + g i) ≡ total_below n f + total_below n g
unfolding total_below
total-sum zero f g = refl
total-sum (suc n) f g = let e = total-sum n f g in omega arith

-- the first, then the others
pub total_first : (n : ℕ) (f : ℕ → ℕ) → total_below (suc n) f ≡ f 0 + total_below n (λ i. f (suc i))
unfolding total_below
total_first zero f = omega arith
total_first (suc n) f = let e = total_first n f in omega arith

-- row by row: m rows of w
pub total-rows : (m w : ℕ) (f : ℕ → ℕ) → total_below (m * w) f ≡ total_below m (λ g. total_below w (λ j. f (g * w + j)))
unfolding total_below
total-rows zero w f = ap (λ x. total_below x f) (zero-mul w)
total-rows (suc m) w f =
    ap (λ x. total_below x f) (suc-mul m w) ∙ total-append (m * w) w f ∙ ap (λ t. t + total_below w (λ j. f (m * w + j))) (total-rows m w f)

pub total_mono : {i n : ℕ} (f : ℕ → ℕ) → i ≤ n → total_below i f ≤ total_below n f
total_mono {i} {n} f h =
    let e : i + (n - i) ≡ n = omega arith in
    let t = ap (λ x. total_below x f) (sym e) ∙ total-append i (n - i) f in
    omega arith

-- a number of which the test holds adds one
pub count_next : (p n : ℕ) (f : ℕ → Bool) → p < n → f p ≡ true → count_below p f < count_below n f
count_next p n f h e =
    let l : count_below (suc p) f ≤ count_below n f = total_mono (λ i. one (f i)) h in
    let s : count_below (suc p) f ≡ count_below p f + 1 = total-suc p (λ i. one (f i)) ∙ ap (λ b. count_below p f + one b) e in
    omega arith
