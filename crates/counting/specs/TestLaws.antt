-- Laws: Tests that are computed once, over all numbers below a bound or along a list, and what they show at each.
use Rattle.std.specs.Prelude.{◌≡◌, refl, Bool, true, false, ◌&&◌, ◌||◌, ◌⊎◌, ℕ, zero, suc, ◌<◌, T}
use Rattle.std.proofs.Common.{sym, subst, inl, inr, not-suc-le-zero, eq-or-lt_of_le, le_of_suc-le-suc, le_refl, le_trans}
use Rattle.std.proofs.Math.Nat.{le-suc}
use Rattle.counting.specs.Test.{all_below, any_below, same}

pub and_l : (a b : Bool) → T (a && b) → T a
and_l true b t = tt
and_l false b t = t

pub and_r : (a b : Bool) → T (a && b) → T b
and_r true b t = t
and_r false b t = absurd t

pub and_intro : (a b : Bool) → T a → T b → T (a && b)
and_intro true b s t = t
and_intro false b s t = s

pub all-at : (n : ℕ) (f : ℕ → Bool) → T (all_below n f) → (i : ℕ) → i < n → T (f i)
all-at zero f t i h = absurd (not-suc-le-zero h)
all-at (suc n) f t i h = go (λ l. all-at n f (and_r (f n) (all_below n f) t) i l) (eq-or-lt_of_le (le_of_suc-le-suc h))
  where
    go : (i < n → T (f i)) → (i ≡ n) ⊎ (i < n) → T (f i)
    go ih (inl e) = subst (λ x. T (f x)) (sym e) (and_l (f n) (all_below n f) t)
    go ih (inr l) = ih l

pub or_r : (a b : Bool) → T b → T (a || b)
or_r true b t = tt
or_r false b t = t

pub or_l : (a b : Bool) → T a → T (a || b)
or_l true b t = tt
or_l false b t = absurd t

pub any_at : (n : ℕ) (f : ℕ → Bool) → T (any_below n f) → (i : ℕ) × (i < n) × T (f i)
any_at zero f t = absurd t
any_at (suc n) f t = go (any_at n f) (f n) refl t
  where
    go : (T (any_below n f) → (i : ℕ) × (i < n) × T (f i)) → (v : Bool) → f n ≡ v → T (v || any_below n f) → (i : ℕ) × (i < suc n) × T (f i)
    go ih true e s = (n, le_refl (suc n), subst T (sym e) tt)
    go ih false e s = let w = ih s in (w.0, le_trans w.1 (le-suc n), w.2)

pub any-intro : (n : ℕ) (f : ℕ → Bool) (i : ℕ) → i < n → T (f i) → T (any_below n f)
any-intro zero f i h t = absurd (not-suc-le-zero h)
any-intro (suc n) f i h t = go (eq-or-lt_of_le (le_of_suc-le-suc h)) (λ l. any-intro n f i l t)
  where
    go : (i ≡ n) ⊎ (i < n) → (i < n → T (any_below n f)) → T (any_below (suc n) f)
    go (inl e) ih = or_l (f n) (any_below n f) (subst (λ x. T (f x)) e t)
    go (inr l) ih = or_r (f n) (any_below n f) (ih l)

-- f holds of none below n
pub none-at : (n : ℕ) (f : ℕ → Bool) → any_below n f ≡ false → (i : ℕ) → i < n → f i ≡ false
none-at n f e i l = go (f i) refl
  where
    go : (v : Bool) → f i ≡ v → v ≡ false
    go true d = absurd (subst T e (any-intro n f i l (subst T (sym d) tt)))
    go false d = refl

pub same-from-l : (a b : Bool) → T (same a b) → T a → T b
same-from-l true b t s = t
same-from-l false b t s = absurd s

pub same-from-r : (a b : Bool) → T (same a b) → T b → T a
same-from-r true b t s = tt
same-from-r false true t s = t
same-from-r false false t s = s

pub all-intro : (n : ℕ) (f : ℕ → Bool) → ((i : ℕ) → i < n → T (f i)) → T (all_below n f)
all-intro zero f h = tt
all-intro (suc n) f h = and_intro (f n) (all_below n f) (h n (le_refl (suc n))) (all-intro n f (λ i l. h i (le_trans l (le-suc n))))
