-- Rows of constants for the free places of a block rebuild, from the two rows across.
use Rattle.std.specs.Prelude.{◌≡◌, cond, ◌⊎◌, List, ℕ, ◌+◌, ◌<◌, ◌≤◌, eqb, length, get_or}
use Rattle.binary_field.specs.Xor.{◌⊕◌}
use Rattle.binary_field.specs.Inverse.{inverse}
use Rattle.code.specs.Edition.{times}
use Rattle.byte_edition.specs.Edition.{byte_edition}

-- v with u at place p
abbrev pub with_at : ℕ → ℕ → (ℕ → ℕ) → ℕ → ℕ
with_at p u v q = cond (eqb q p) u (v q)

-- two rows mixed
abbrev pub mixed : ℕ → ℕ → (ℕ → ℕ) → (ℕ → ℕ) → ℕ → ℕ
mixed f h a b q = times byte_edition (a q) f ⊕ times byte_edition (b q) h

-- two rows of n places, one after the other
abbrev pub first_of : List ℕ → ℕ → ℕ
first_of rows q = get_or rows q 0

abbrev pub second_of : ℕ → List ℕ → ℕ → ℕ
second_of n rows q = get_or rows (n + q) 0

-- both rows with 0 at place p, where they were a and b
pub record Cleared (n p : ℕ) (before after : List ℕ) : Type 0 where
  pub long : length after ≡ length before
  pub first : (q : ℕ) → q < n → first_of after q ≡ with_at p 0 (first_of before) q
  pub second : (q : ℕ) → q < n → second_of n after q ≡ with_at p 0 (second_of n before) q

-- a mixture of two rows written, n places from start on
pub record Mixed (n start f h : ℕ) (rows before after : List ℕ) : Type 0 where
  pub long : length after ≡ length before
  pub here : (q : ℕ) → q < n → get_or after (start + q) 0 ≡ mixed f h (first_of rows) (second_of n rows) q
  pub other : (k : ℕ) → (k < start) ⊎ (start + n ≤ k) → get_or after k 0 ≡ get_or before k 0

module _ (p : ℕ) (a b : ℕ → ℕ) where
  -- the constants of the test that is left with the one free place p, once the first row has given its symbol; of two rows across a p is
  -- never 0 (`block_laws/FreeLaws: one-some`)
  abbrev pub one_test : ℕ → ℕ
  one_test q = mixed (times byte_edition (b p) (inverse 8 285 (a p))) 1 (with_at p 0 a) (with_at p 0 b) q

  -- the constants of the symbol at p
  abbrev pub one_value : ℕ → ℕ
  one_value q = mixed (inverse 8 285 (a p)) 0 (with_at p 0 a) (with_at p 0 b) q

  module _ (q : ℕ) where
    -- the inverse of the determinant of two free places
    abbrev pub determinant_inverse : ℕ
    determinant_inverse = inverse 8 285 (times byte_edition (a p) (b q) ⊕ times byte_edition (a q) (b p))

    -- the constants of the symbol of p, and of that of q
    abbrev pub two_first : ℕ → ℕ
    two_first r =
        mixed (times byte_edition determinant_inverse (b q)) (times byte_edition determinant_inverse (a q)) (with_at q 0 (with_at p 0 a)) (with_at q 0
        (with_at p 0 b)) r

    abbrev pub two_second : ℕ → ℕ
    two_second r =
        mixed (times byte_edition determinant_inverse (b p)) (times byte_edition determinant_inverse (a p)) (with_at q 0 (with_at p 0 a)) (with_at q 0
        (with_at p 0 b)) r

-- one row of n constants, and 0 after it
pub record OneRow (n : ℕ) (a : ℕ → ℕ) (row : List ℕ) : Type 0 where
  pub here : (q : ℕ) → q < n → get_or row q 0 ≡ a q
  pub rest : (k : ℕ) → n ≤ k → get_or row k 0 ≡ 0

-- two rows, one after the other, and 0 after them
pub record TwoRows (n : ℕ) (a b : ℕ → ℕ) (rows : List ℕ) : Type 0 where
  pub first : (q : ℕ) → q < n → first_of rows q ≡ a q
  pub second : (q : ℕ) → q < n → second_of n rows q ≡ b q
  pub rest : (k : ℕ) → n + n ≤ k → get_or rows k 0 ≡ 0
