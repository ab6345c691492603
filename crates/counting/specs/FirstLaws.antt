-- Laws of the lowest number that passes a test.
use Rattle.std.specs.Prelude.{◌≡◌, refl, Bool, true, false, cond, ℕ, zero, suc, ◌<◌, ◌≤◌}
use Rattle.std.proofs.Common.{sym, ap, ap₂, ◌∙◌, true≢false, arith}
use Rattle.counting.specs.First.{first_below}

pub first-most : (n : ℕ) (f : ℕ → Bool) → first_below n f ≤ n
unfolding first_below
first-most zero f = omega arith
first-most (suc n) f = go (f zero) (first-most n (λ i. f (suc i)))
  where
    go : (b : Bool) → first_below n (λ i. f (suc i)) ≤ n → cond b zero (suc (first_below n (λ i. f (suc i)))) ≤ suc n
    go true h = omega arith
    go false h = omega arith

-- below it f holds of none
pub first-before : (n : ℕ) (f : ℕ → Bool) (i : ℕ) → i < first_below n f → f i ≡ false
unfolding first_below
first-before zero f i l = absurd (omega arith)
first-before (suc n) f i l = go (first-before n (λ i. f (suc i))) (f zero) refl i l
  where
    go : ((i : ℕ) → i < first_below n (λ i. f (suc i)) → f (suc i) ≡ false)
        → (b : Bool) → f zero ≡ b → (i : ℕ) → i < cond b zero (suc (first_below n (λ i. f (suc i)))) → f i ≡ false
    go ih true e i l = absurd (omega arith)
    go ih false e zero l = e
    go ih false e (suc i) l = ih i (omega arith)

-- where it is below n, f holds of it
pub first_holds : (n : ℕ) (f : ℕ → Bool) → first_below n f < n → f (first_below n f) ≡ true
unfolding first_below
first_holds zero f l = absurd (omega arith)
first_holds (suc n) f l = go (first_holds n (λ i. f (suc i))) (f zero) refl l
  where
    go : (first_below n (λ i. f (suc i)) < n → f (suc (first_below n (λ i. f (suc i)))) ≡ true)
        → (b : Bool) → f zero ≡ b → cond b zero (suc (first_below n (λ i. f (suc i)))) < suc n
        → f (cond b zero (suc (first_below n (λ i. f (suc i))))) ≡ true
    go ih true e l = e
    go ih false e l = ih (omega arith)

-- the two facts that make a number the lowest
pub first-is : (n : ℕ) (f : ℕ → Bool) (g : ℕ) → g ≤ n → ((i : ℕ) → i < g → f i ≡ false) → (g < n → f g ≡ true) → first_below n f ≡ g
unfolding first_below
first-is zero f g l before here = omega arith
first-is (suc n) f zero l before here = ap (λ b. cond b zero (suc (first_below n (λ i. f (suc i))))) (here (omega arith))
first-is (suc n) f (suc g) l before here =
    ap (λ b. cond b zero (suc (first_below n (λ i. f (suc i))))) (before zero (omega arith))
    ∙ ap suc (first-is n (λ i. f (suc i)) g (omega arith) (λ i h. before (suc i) (omega arith)) (λ h. here (omega arith)))

-- tests that agree below n
pub first-ext : (n : ℕ) (f g : ℕ → Bool) → ((i : ℕ) → i < n → f i ≡ g i) → first_below n f ≡ first_below n g
unfolding first_below
first-ext zero f g e = refl
first-ext (suc n) f g e =
    ap₂ (λ b k. cond b zero (suc k)) (e zero (omega arith)) (first-ext n (λ i. f (suc i)) (λ i. g (suc i)) (λ i l. e (suc i) (omega arith)))

-- none passes
pub first-none : (n : ℕ) (f : ℕ → Bool) → ((i : ℕ) → i < n → f i ≡ false) → first_below n f ≡ n
first-none n f none = first-is n f n (omega arith) none (λ l. absurd (omega arith))
