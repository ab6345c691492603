-- Laws: The names of shapes, and their order.
use Rattle.std.specs.Prelude.{◌≡◌, refl, Bool, true, false, cond, not, ◌&&◌, List, [], ◌∷◌, ℕ, ◌≤◌, T, eqb, leb, ltb, length}
use Rattle.std.proofs.Common.{sym, ap, ◌∙◌, true≢false, arith, eqb-true, ltb-true, ltb-false, lt-ltb, le-ltb, eq-eqb, ne_eqb, eqb→eq, leb→le}
use Rattle.std.proofs.lemmas.Bool.{false≢true, eqb-false}
use Rattle.std.proofs.Math.Dec.{not_T}
use Rattle.counting.specs.TestLaws.{and_l, and_r, and_intro}
use Rattle.text.specs.Fields.{same}
use Rattle.text.specs.Decimal.{without}
use Rattle.catalogue_text.specs.Names.{name_byte, name_bytes, good_name, before}

-- two tests that follow from each other are the same
pub tests_same : (a b : Bool) → (T a → T b) → (T b → T a) → a ≡ b
tests_same true true f g = refl
tests_same true false f g = absurd (f tt)
tests_same false true f g = absurd (g tt)
tests_same false false f g = refl

pub is_true : (b : Bool) → T b → b ≡ true
is_true true t = refl
is_true false t = absurd t

pub true-is : (b : Bool) → b ≡ true → T b
true-is true e = tt
true-is false e = false≢true e

pub and_none : (a : Bool) → (a && false) ≡ false
and_none true = refl
and_none false = refl

pub and-all : (a : Bool) → (a && true) ≡ a
and-all true = refl
and-all false = refl

pub same_refl : (xs : List ℕ) → same xs xs ≡ true
unfolding same
same_refl [] = refl
same_refl (x ∷ xs) = rw (eq-eqb x x refl) (same_refl xs)

pub same-sym : (xs ys : List ℕ) → same xs ys ≡ same ys xs
unfolding same
same-sym [] [] = refl
same-sym [] (y ∷ ys) = refl
same-sym (x ∷ xs) [] = refl
same-sym (x ∷ xs) (y ∷ ys) = go (eqb x y) refl (same-sym xs ys)
  where
    go : (b : Bool) → eqb x y ≡ b → same xs ys ≡ same ys xs → (b && same xs ys) ≡ (eqb y x && same ys xs)
    go true d i = rw (eq-eqb y x (sym (eqb-true x y d))) i
    go false d i = let n = eqb-false x y d in rw (ne_eqb y x (λ z. n (sym z)))

-- a name that stands before another doesn't stand after it, nor is it the same
pub before-only : (a b : List ℕ) → before a b ≡ true → (before b a ≡ false) × (same b a ≡ false)
unfolding before same
before-only [] [] e = absurd (false≢true e)
before-only [] (y ∷ ys) e = (refl, refl)
before-only (x ∷ xs) [] e = absurd (false≢true e)
before-only (x ∷ xs) (y ∷ ys) e = go (eqb x y) refl e (before-only xs ys)
  where
    go : (b : Bool) → eqb x y ≡ b → cond b (before xs ys) (ltb x y) ≡ true
        → (before xs ys ≡ true → (before ys xs ≡ false) × (same ys xs ≡ false))
        → (cond (eqb y x) (before ys xs) (ltb y x) ≡ false) × ((eqb y x && same ys xs) ≡ false)
    go true d e i = rw (eq-eqb y x (sym (eqb-true x y d))) (i e)
    go false d e i =
        let n = eqb-false x y d in
        let l = ltb-true x y e in
        rw (ne_eqb y x (λ z. n (sym z))) (le-ltb y x (omega arith), refl)

-- of two names that are not the same one stands before the other
pub before-else : (a b : List ℕ) → before a b ≡ false → same a b ≡ false → before b a ≡ true
unfolding before same
before-else [] [] e s = absurd (true≢false s)
before-else [] (y ∷ ys) e s = absurd (true≢false e)
before-else (x ∷ xs) [] e s = refl
before-else (x ∷ xs) (y ∷ ys) e s = go (eqb x y) refl e s (before-else xs ys)
  where
    go : (b : Bool) → eqb x y ≡ b → cond b (before xs ys) (ltb x y) ≡ false → (b && same xs ys) ≡ false
        → (before xs ys ≡ false → same xs ys ≡ false → before ys xs ≡ true) → cond (eqb y x) (before ys xs) (ltb y x) ≡ true
    go true d e s i = rw (eq-eqb y x (sym (eqb-true x y d))) (i e s)
    go false d e s i =
        let n = eqb-false x y d in
        let l = ltb-false x y e in
        rw (ne_eqb y x (λ z. n (sym z))) (lt-ltb y x (omega arith))

pub before-trans : (a b c : List ℕ) → before a b ≡ true → before b c ≡ true → before a c ≡ true
unfolding before
before-trans [] [] c e f = absurd (false≢true e)
before-trans [] (y ∷ ys) [] e f = absurd (false≢true f)
before-trans [] (y ∷ ys) (z ∷ zs) e f = refl
before-trans (x ∷ xs) [] c e f = absurd (false≢true e)
before-trans (x ∷ xs) (y ∷ ys) [] e f = absurd (false≢true f)
before-trans (x ∷ xs) (y ∷ ys) (z ∷ zs) e f = go (eqb x y) (eqb y z) refl refl e f (before-trans xs ys zs)
  where
    go : (p q : Bool) → eqb x y ≡ p → eqb y z ≡ q → cond p (before xs ys) (ltb x y) ≡ true → cond q (before ys zs) (ltb y z) ≡ true
        → (before xs ys ≡ true → before ys zs ≡ true → before xs zs ≡ true) → cond (eqb x z) (before xs zs) (ltb x z) ≡ true
    go true true d g e f i = rw (eq-eqb x z (eqb-true x y d ∙ eqb-true y z g)) (i e f)
    go true false d g e f i =
        let u = eqb-true x y d in
        let n = eqb-false y z g in
        let l = ltb-true y z f in
        rw (ne_eqb x z (λ h. n (sym u ∙ h))) (lt-ltb x z (omega arith))
    go false true d g e f i =
        let u = eqb-true y z g in
        let n = eqb-false x y d in
        let l = ltb-true x y e in
        rw (ne_eqb x z (λ h. n (h ∙ sym u))) (lt-ltb x z (omega arith))
    go false false d g e f i =
        let l = ltb-true x y e in
        let k = ltb-true y z f in
        rw (ne_eqb x z (λ h. omega arith)) (lt-ltb x z (omega arith))

-- a good name isn't empty
pub name-some : (name : List ℕ) → T (good_name name) → 1 ≤ length name
unfolding good_name
name-some name t = leb→le 1 (length name) (and_l (leb 1 (length name)) _ t)

pub name-first : (name : List ℕ) → T (good_name name) → T (before [] name)
unfolding good_name before
name-first [] t = t
name-first (x ∷ name) t = tt

-- a byte that stands in no name, as a tab and a line feed
bytes-without : (y : ℕ) → name_byte y ≡ false → (xs : List ℕ) → T (name_bytes xs) → T (without y xs)
unfolding name_bytes without
bytes-without y n [] t = tt
bytes-without y n (x ∷ xs) t =
    and_intro (not (eqb x y)) (without y xs)
    (not_T (eqb x y) (λ q. let z : name_byte x ≡ false = ap name_byte (eqb→eq x y q) ∙ n in rw z at (and_l (name_byte x) (name_bytes xs) t)))
    (bytes-without y n xs (and_r (name_byte x) (name_bytes xs) t))

pub name-without : (y : ℕ) → name_byte y ≡ false → (name : List ℕ) → T (good_name name) → T (without y name)
unfolding good_name
name-without y n name t =
    bytes-without y n name
    (and_r (leb (length name) 16) (name_bytes name) (and_r (leb 1 (length name)) (leb (length name) 16 && name_bytes name) t))
