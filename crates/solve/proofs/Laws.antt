-- The steps of the loops.
use mathlib.Core.Path.{◌≡◌, refl, sym, ap, ap₂, ◌∙◌}
use mathlib.Core.Bool.{cond}
use mathlib.Core.List.{List, [], ◌∷◌, ◌++◌, append_assoc, append-nil}
use Prim.Native.Nat.{ℕ, suc, ◌+◌, ◌-◌, ◌^◌, ◌≤◌, ◌<◌}
use native.Mathlib.Nat.{mod-eq_of_lt}
use native.Mathlib.Numerals.{add-one}
use native.Mathlib.Omega.{arith}
use borrow.Author.Tests.{eq-eqb, ne_eqb, lt-ltb, le-ltb}
use Rattle.std.specs.Prelude.{swap}
use Rattle.std.proofs.lemmas.List.{get_or_default}
use lib.Dec.{eqb}
use lib.ListN.{length, get_or, take, drop, set, drop_of_length-le}
use lib.Bits.{bit_xor}
use lib.Seq.{drop-cons, take-suc-set, drop-set-lt, take_all, set-get_or}
use Rattle.binary_field.specs.Xor.{◌⊕◌}
use Rattle.binary_field.specs.XorLaws.{⊕-bits, ⊕-zero-r}
use Rattle.binary_field.specs.ProductLaws.{zero-product, one_product}
use Rattle.binary_field.specs.PowerLaws.{one_power}
use Rattle.binary_field.specs.Product.{product}
use Rattle.binary_field.specs.Inverse.{inverse}
use Rattle.code_engine.specs.Elimination.{row, entry, scaled, added, exchanged, normalized, cleared_row, cleared, pivot_from, pivot, eliminate_column}
use Rattle.code_engine.specs.Elimination.{eliminated_to}
use Rattle.code_engine.specs.EliminationRowsLaws.{cleared-pivot}

module _ (k m : ℕ) where
  -- ---- along two rows
  pub added-step : (f : ℕ) (x s : List ℕ) (c p : ℕ) → c < length x → c < length s → p ≡ product k m f (get_or s c 0)
      → take (c + 1) (set x c (bit_xor (get_or x c 0) p)) ++ added k m f (drop (c + 1) (set x c (bit_xor (get_or x c 0) p))) (drop (c + 1) s)
      ≡ take c x ++ added k m f (drop c x) (drop c s)
  unfolding added
  added-step f x s c p h l e =
      let b : c < suc c = omega arith in
      rw (⊕-bits, e, add-one, take-suc-set, drop-set-lt, drop-cons x c 0, drop-cons s c 0, append_assoc)

  pub added-end : (f : ℕ) (x s : List ℕ) (c : ℕ) → length x ≤ c → length s ≤ c → take c x ++ added k m f (drop c x) (drop c s) ≡ x
  unfolding added scaled
  added-end f x s c h l = rw (drop_of_length-le x, drop_of_length-le s, take_all, append-nil)

  -- ---- along one row
  pub scaled-step : (f : ℕ) (x : List ℕ) (c p : ℕ) → c < length x → p ≡ product k m f (get_or x c 0)
      → take (c + 1) (set x c p) ++ scaled k m f (drop (c + 1) (set x c p)) ≡ take c x ++ scaled k m f (drop c x)
  unfolding scaled
  scaled-step f x c p h e =
      let b : c < suc c = omega arith in
      rw (e, add-one, take-suc-set, drop-set-lt, drop-cons x c 0, append_assoc)

  pub scaled-end : (f : ℕ) (x : List ℕ) (c : ℕ) → length x ≤ c → take c x ++ scaled k m f (drop c x) ≡ x
  unfolding scaled
  scaled-end f x c h = rw (drop_of_length-le x, take_all, append-nil)

  -- ---- by 0 and by 1
  pub added-zero : (xs ys : List ℕ) → length ys ≡ length xs → added k m 0 xs ys ≡ xs
  unfolding added scaled
  added-zero [] [] e = refl
  added-zero [] (y ∷ ys) e = absurd (omega arith)
  added-zero (x ∷ xs) [] e = refl
  added-zero (x ∷ xs) (y ∷ ys) e = ap₂ ◌∷◌ (ap (λ p. x ⊕ p) (zero-product k m y) ∙ ⊕-zero-r x) (added-zero xs ys (omega arith))

  pub scaled-one : 0 < k → (xs : List ℕ) → ((c : ℕ) → get_or xs c 0 < 2 ^ k) → scaled k m 1 xs ≡ xs
  unfolding scaled
  scaled-one pos [] h = refl
  scaled-one pos (x ∷ xs) h = ap₂ ◌∷◌ (one_product k m pos x ∙ mod-eq_of_lt (h 0)) (scaled-one pos xs (λ c. h (suc c)))

  -- ---- over the rows
  module _ (M : List (List ℕ)) (j : ℕ) where
    pub clear_none : M ≡ cleared k m M j 0
    unfolding cleared
    clear_none = refl

    module _ (N : List (List ℕ)) (i : ℕ) (e : N ≡ cleared k m M j i) where
      pub clear_next : cleared_row k m N j i ≡ cleared k m M j (i + 1)
      unfolding cleared
      clear_next = rw (add-one, e)

      -- row j stays
      pub clear-pivot : row M j ≡ row N j
      clear-pivot = sym (cleared-pivot k m M j i) ∙ ap (λ A. row A j) (sym e)

    pub row-skip : (i : ℕ) → i ≡ j → M ≡ cleared_row k m M j i
    unfolding cleared_row
    row-skip i e = rw (eq-eqb i j e)

    pub row-add : (i : ℕ) → (i ≡ j → ⊥) → set M i (added k m (entry M i j) (row M i) (row M j)) ≡ cleared_row k m M j i
    unfolding cleared_row
    row-add i n = rw (ne_eqb i j n)

    -- ---- over the columns
    pub column-found : (t p : ℕ) (N : List (List ℕ)) → p ≡ pivot M j t → p < t → N ≡ exchanged M j p → cleared k m (normalized k m N j) j t
        ≡ eliminate_column k m M j t
    unfolding eliminate_column
    column-found t p N e h q = rw (q, ← e, lt-ltb p t h)

    -- a row exchanged with itself
    pub exchanged_same : M ≡ exchanged M j j
    exchanged_same = sym (ap (λ A. set A j (row M j)) (set-get_or M j []) ∙ set-get_or M j [])

    pub column-none : (t p : ℕ) → p ≡ pivot M j t → t ≤ p → M ≡ eliminate_column k m M j t
    unfolding eliminate_column
    column-none t p e h = rw (← e, le-ltb p t h)

  pub eliminate-none : (M : List (List ℕ)) (t : ℕ) → M ≡ eliminated_to k m M t 0
  unfolding eliminated_to
  eliminate-none M t = refl

  pub eliminate-next : (M : List (List ℕ)) (t : ℕ) (N : List (List ℕ)) (n : ℕ) → N ≡ eliminated_to k m M t n → eliminate_column k m N n t
      ≡ eliminated_to k m M t (n + 1)
  unfolding eliminated_to
  eliminate-next M t N n e = rw (add-one, e)

-- ---- the search for a pivot
module _ (M : List (List ℕ)) (j t i : ℕ) where
  pub search-turn : i < t → pivot_from M j (t - i) i ≡ cond (eqb (entry M i j) 0) (pivot_from M j (t - (i + 1)) (i + 1)) i
  unfolding pivot_from
  search-turn h = let e : t - i ≡ suc (t - (i + 1)) = omega arith in rw e

  pub search-on : i < t → entry M i j ≡ 0 → pivot_from M j (t - (i + 1)) (i + 1) ≡ pivot_from M j (t - i) i
  search-on h z = rw (search-turn h, eq-eqb (entry M i j) 0 z)

  pub search-found : i < t → (entry M i j ≡ 0 → ⊥) → i ≡ pivot_from M j (t - i) i
  search-found h n = rw (search-turn h, ne_eqb (entry M i j) 0 n)

  pub search-end : t ≤ i → i ≡ pivot_from M j (t - i) i
  unfolding pivot_from
  search-end h = let e : t - i ≡ 0 = omega arith in rw e

-- ---- a row that stays as it is, and one that is put in its place
module _ (k m : ℕ) where
  -- an entry of 1
  pub scaled-by-one : 0 < k → (xs : List ℕ) → ((c : ℕ) → get_or xs c 0 < 2 ^ k) → (d : ℕ) → d ≡ 1 → xs ≡ scaled k m (inverse k m d) xs
  unfolding inverse
  scaled-by-one pos xs small d e =
      sym (ap (λ f. scaled k m f xs) (ap (inverse k m) e ∙ one_power k m pos (2 ^ k - 2)) ∙ scaled-one k m pos xs small)

  -- an entry of 0
  pub added-by-zero : (xs ys : List ℕ) → length ys ≡ length xs → (f : ℕ) → f ≡ 0 → xs ≡ added k m f xs ys
  added-by-zero xs ys l f z = sym (ap (λ f. added k m f xs ys) z ∙ added-zero k m xs ys l)

-- the swap of std is the exchange of two rows that are there
pub swap-exchanged : (M : List (List ℕ)) (i j : ℕ) → i < length M → j < length M → swap M i j ≡ exchanged M i j
swap-exchanged [] i j h l = absurd (omega arith)
swap-exchanged (r ∷ M) i j h l =
    ap₂ (λ a b. set (set (r ∷ M) i a) j b) (get_or_default (r ∷ M) j r [] l) (get_or_default (r ∷ M) i r [] h)
