-- The first line of a part of an input, and of an input that goes on.
use Rattle.std.specs.Prelude.{◌≡◌, refl, Bool, true, false, cond, List, [], ◌∷◌, ◌++◌, ℕ, zero, suc, ◌-◌, ◌≤◌, ◌<◌, eqb, length, take}
use Rattle.std.proofs.Common.{sym, ap, arith}
use Rattle.std.proofs.Math.Nat.{suc-sub-suc, sub-zero}
use Rattle.text.specs.Fields.{up_to}
use Rattle.block_input.specs.Lines.{until_line_feed, after_line, has_feed}

-- ---- the front of an input
pub cut_line : (n : ℕ) (xs : List ℕ) → length (until_line_feed xs) < n → until_line_feed (take n xs) ≡ until_line_feed xs
unfolding up_to
cut_line zero xs l = absurd (omega arith)
cut_line (suc n) [] l = refl
cut_line (suc n) (x ∷ xs) l = go (eqb x 10) l (cut_line n xs)
  where
    go : (b : Bool) → length (cond b [] (x ∷ until_line_feed xs)) < suc n → (length (until_line_feed xs) < n → until_line_feed (take n xs) ≡ until_line_feed xs)
        → cond b [] (x ∷ until_line_feed (take n xs)) ≡ cond b [] (x ∷ until_line_feed xs)
    go true l h = refl
    go false l h = ap (λ ys. x ∷ ys) (h (omega arith))

pub cut-after : (n : ℕ) (xs : List ℕ) → length (until_line_feed xs) < n → after_line (take n xs) ≡ take (n - suc (length (until_line_feed xs))) (after_line xs)
unfolding up_to after_line
cut-after zero xs l = absurd (omega arith)
cut-after (suc n) [] l = sym (nothing (suc n - 1))
  where
    nothing : (k : ℕ) → take {A = ℕ} k [] ≡ []
    nothing zero = refl
    nothing (suc k) = refl
cut-after (suc n) (x ∷ xs) l = go (eqb x 10) l (cut-after n xs)
  where
    go : (b : Bool) → length (cond b [] (x ∷ until_line_feed xs)) < suc n
        → (length (until_line_feed xs) < n → after_line (take n xs) ≡ take (n - suc (length (until_line_feed xs))) (after_line xs))
        → cond b (take n xs) (after_line (take n xs)) ≡ take (suc n - suc (length (cond b [] (x ∷ until_line_feed xs)))) (cond b xs (after_line xs))
    go true l h = rw (suc-sub-suc n 0, sub-zero n)
    go false l h = rw (suc-sub-suc n (suc (length (until_line_feed xs)))) (h (omega arith))

pub cut-long : (n : ℕ) (xs : List ℕ) → n ≤ length (until_line_feed xs) → length (until_line_feed (take n xs)) ≡ n
unfolding up_to
cut-long zero xs l = refl
cut-long (suc n) [] l = absurd (omega arith)
cut-long (suc n) (x ∷ xs) l = go (eqb x 10) l (cut-long n xs)
  where
    go : (b : Bool) → suc n ≤ length (cond b [] (x ∷ until_line_feed xs)) → (n ≤ length (until_line_feed xs) → length (until_line_feed (take n xs)) ≡ n)
        → length (cond b [] (x ∷ until_line_feed (take n xs))) ≡ suc n
    go true l h = absurd (omega arith)
    go false l h = ap suc (h (omega arith))

-- ---- an input that goes on
pub more-line : (xs ys : List ℕ) → has_feed xs ≡ true → until_line_feed (xs ++ ys) ≡ until_line_feed xs
unfolding up_to has_feed
more-line [] ys e = let z : ◌≡◌ {A = ℕ} 0 1 = cc in absurd (omega arith)
more-line (x ∷ xs) ys e = go (eqb x 10) e (more-line xs ys)
  where
    go : (b : Bool) → cond b true (has_feed xs) ≡ true → (has_feed xs ≡ true → until_line_feed (xs ++ ys) ≡ until_line_feed xs)
        → cond b [] (x ∷ until_line_feed (xs ++ ys)) ≡ cond b [] (x ∷ until_line_feed xs)
    go true e h = refl
    go false e h = ap (λ zs. x ∷ zs) (h e)

pub more-after : (xs ys : List ℕ) → has_feed xs ≡ true → after_line (xs ++ ys) ≡ after_line xs ++ ys
unfolding after_line has_feed
more-after [] ys e = let z : ◌≡◌ {A = ℕ} 0 1 = cc in absurd (omega arith)
more-after (x ∷ xs) ys e = go (eqb x 10) e (more-after xs ys)
  where
    go : (b : Bool) → cond b true (has_feed xs) ≡ true → (has_feed xs ≡ true → after_line (xs ++ ys) ≡ after_line xs ++ ys)
        → cond b (xs ++ ys) (after_line (xs ++ ys)) ≡ cond b xs (after_line xs) ++ ys
    go true e h = refl
    go false e h = h e

-- a line without its line feed only grows
pub more-long : (xs ys : List ℕ) → has_feed xs ≡ false → length xs ≤ length (until_line_feed (xs ++ ys))
unfolding up_to has_feed
more-long [] ys e = omega arith
more-long (x ∷ xs) ys e = go (eqb x 10) e (more-long xs ys)
  where
    go : (b : Bool) → cond b true (has_feed xs) ≡ false → (has_feed xs ≡ false → length xs ≤ length (until_line_feed (xs ++ ys)))
        → suc (length xs) ≤ length (cond b [] (x ∷ until_line_feed (xs ++ ys)))
    go true e h = let z : ◌≡◌ {A = ℕ} 0 1 = cc in absurd (omega arith)
    go false e h = let k = h e in omega arith
