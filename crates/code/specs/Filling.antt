-- The first filling of the lost places that passes a test. It specifies the result, not how to find it: going through the places in
-- word order, a present place keeps its symbol and a lost place tries every symbol, smallest first. It is never run; its laws say that
-- what is found fills and passes, and that if nothing is found, no filling passes.
use Rattle.std.specs.Prelude.{◌≡◌, Bool, true, false, cond, List, [], ◌∷◌, ℕ, zero, suc, ◌<◌, T, length, get_or, drop}
use Rattle.code.specs.Marks.{lost}

-- a word, or none
pub data Found : Type 0 where
  found : List ℕ → Found
  none : Found

-- with one symbol more in front
abbrev pub extend : ℕ → Found → Found
extend v (found x) = found (v ∷ x)
extend v none = none

-- the first of two that is found
abbrev pub or_else : Found → Found → Found
or_else (found x) f = found x
or_else none f = f

-- the first that is found among f 0, f 1, .., f (n - 1)
unfoldable pub try_below : ℕ → (ℕ → Found) → Found
try_below zero f = none
try_below (suc n) f = or_else (try_below n f) (f n)

-- the first filling with symbols below q that passes
unfoldable pub search : ℕ → (List ℕ → Bool) → List ℕ → List ℕ → Found
search q test marks [] = cond (test []) (found []) none
search q test marks (b ∷ word) =
    cond (lost marks 0) (try_below q (λ v. extend v (search q (λ x. test (v ∷ x)) (drop 1 marks) word)))
    (extend b (search q (λ x. test (b ∷ x)) (drop 1 marks) word))

-- x is word with symbols below q in the lost places
pub record Fills (q : ℕ) (marks word x : List ℕ) : Type 0 where
  pub size : length x ≡ length word
  pub present : (p : ℕ) → p < length word → lost marks p ≡ false → get_or x p 0 ≡ get_or word p 0
  pub each : (p : ℕ) → p < length word → lost marks p ≡ true → get_or x p 0 < q

-- what is found fills the lost places and passes the test
pub record Passing (q : ℕ) (test : List ℕ → Bool) (marks word x : List ℕ) : Type 0 where
  pub fills : Fills q marks word x
  pub passes : T (test x)
