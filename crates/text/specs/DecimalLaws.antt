-- Numbers and their text: what digits make, one at a time, and that each number below a bound has one text.
use Rattle.std.specs.Prelude.{◌≡◌, refl, Bool, true, false, cond, not, ◌&&◌, List, [], ◌∷◌, ◌++◌, ℕ, zero, suc, ◌+◌, ◌-◌, ◌*◌, ◌/◌, ◌%◌, ◌^◌, ◌≤◌, ◌<◌, T, eqb, leb, ltb, length, get_or}
use Rattle.std.proofs.Common.{sym, ap, ◌∙◌, append_assoc, append-nil, arith, lt-ltb, le-ltb, leb-true, ltb-true, eq-eqb, ne_eqb, le-leb, eqb→eq, length-append}
use Rattle.std.proofs.Math.Decide.{dec_lt}
use Rattle.std.proofs.lemmas.Bool.{eqb-false}
use Rattle.std.proofs.Math.Dec.{not_T}
use Rattle.std.proofs.Math.ListN.{get_or-append}
use Rattle.text.specs.Decimal.{digits_of, is_digit, unreadable, digits_after, number_of, digit_after, without}
use Rattle.counting.specs.TestLaws.{and_l, and_r, and_intro}

-- ---- the digits of a number

pub digits-one : (t n : ℕ) → n < 10 → digits_of t n ≡ (48 + n) ∷ []
unfolding digits_of
digits-one zero n l = refl
digits-one (suc t) n l = rw (lt-ltb n 10 l)

pub digits-split : (t n : ℕ) → 10 ≤ n → digits_of (suc t) n ≡ digits_of t (n / 10) ++ ((48 + n % 10) ∷ [])
unfolding digits_of
digits-split t n l = rw (le-ltb n 10 l)

-- more room for digits changes nothing
pub digits-enough : (s t n : ℕ) → n < 10 ^ suc s → n < 10 ^ suc t → digits_of s n ≡ digits_of t n
digits-enough zero t n l h = digits-one zero n l ∙ sym (digits-one t n l)
digits-enough (suc s) zero n l h = digits-one (suc s) n h ∙ sym (digits-one zero n h)
digits-enough (suc s) (suc t) n l h = elim (dec_lt n 10) [
  | yes k ↦ digits-one (suc s) n k ∙ sym (digits-one (suc t) n k)
  | no k ↦ (
      digits-split s n (omega arith) ∙ ap (λ d. d ++ ((48 + n % 10) ∷ [])) (digits-enough s t (n / 10) (omega arith) (omega arith))
      ∙ sym (digits-split t n (omega arith))
      )
]

pub digits-shift : (t n : ℕ) → 10 ≤ n → n < 10 ^ suc t → digits_of t n ≡ digits_of t (n / 10) ++ ((48 + n % 10) ∷ [])
digits-shift zero n l h = absurd (omega arith)
digits-shift (suc t) n l h =
    digits-split t n l ∙ ap (λ d. d ++ ((48 + n % 10) ∷ [])) (digits-enough t (suc t) (n / 10) (omega arith) (omega arith))

pub digits-most : (t n : ℕ) → length (digits_of t n) ≤ suc t
unfolding digits_of
digits-most zero n = omega arith
digits-most (suc t) n = elim (dec_lt n 10) [
  | yes h ↦ rw (digits-one (suc t) n h) (omega arith)
  | no h ↦ (let i = digits-most t (n / 10) in rw (digits-split t n (omega arith), length-append) (omega arith))
]

pub digits-some : (t n : ℕ) → 0 < length (digits_of t n)
unfolding digits_of
digits-some zero n = omega arith
digits-some (suc t) n = elim (dec_lt n 10) [
  | yes h ↦ rw (digits-one (suc t) n h) (omega arith)
  | no h ↦ rw (digits-split t n (omega arith), length-append) (omega arith)
]

pub digit-again : (bound a x : ℕ) (xs : List ℕ) → digit_after bound a x < bound
    → digits_after bound a (x ∷ xs) ≡ digits_after bound (digit_after bound a x) xs
unfolding digit_after digits_after
digit-again bound a x xs = go (is_digit x && ltb (10 * a + (x - 48)) bound)
  where
    go : (b : Bool) → cond b (10 * a + (x - 48)) (bound + 1) < bound
        → cond b (digits_after bound (10 * a + (x - 48)) xs) (bound + 1) ≡ digits_after bound (cond b (10 * a + (x - 48)) (bound + 1)) xs
    go true l = refl
    go false l = absurd (omega arith)

pub digit-stop : (bound a x : ℕ) (xs : List ℕ) → bound ≤ digit_after bound a x → digits_after bound a (x ∷ xs) ≡ unreadable bound
unfolding digit_after digits_after
digit-stop bound a x xs = go (is_digit x) (ltb (10 * a + (x - 48)) bound) refl
  where
    go : (d l : Bool) → ltb (10 * a + (x - 48)) bound ≡ l → bound ≤ cond (d && l) (10 * a + (x - 48)) (bound + 1)
        → cond (d && l) (digits_after bound (10 * a + (x - 48)) xs) (bound + 1) ≡ bound + 1
    go true true e l = let k = ltb-true (10 * a + (x - 48)) bound e in absurd (omega arith)
    go true false e l = refl
    go false v e l = refl

-- a number by the length of its text and its first byte
pub number-none : (bound : ℕ) (xs : List ℕ) → length xs ≡ 0 → number_of bound xs ≡ unreadable bound
unfolding number_of
number-none bound [] e = refl
number-none bound (x ∷ xs) e = absurd (omega arith)

pub number-zero : (bound : ℕ) (xs : List ℕ) → 1 < length xs → get_or xs 0 0 ≡ 48 → number_of bound xs ≡ unreadable bound
unfolding number_of
number-zero bound [] l e = absurd (omega arith)
number-zero bound (x ∷ []) l e = absurd (omega arith)
number-zero bound (x ∷ y ∷ ys) l e = rw (eq-eqb x 48 e)

pub number_digits : (bound : ℕ) (xs : List ℕ) → (length xs ≡ 0 → ⊥) → (1 < length xs → get_or xs 0 0 ≡ 48 → ⊥)
    → number_of bound xs ≡ digits_after bound 0 xs
unfolding number_of
number_digits bound [] n z = absurd (n refl)
number_digits bound (x ∷ []) n z = refl
number_digits bound (x ∷ y ∷ ys) n z = rw (ne_eqb x 48 (z (omega arith)))

-- ---- a number's text is read as it

-- one digit more behind a number that was read
digits-snoc : (bound a : ℕ) (xs : List ℕ) (d : ℕ) → digits_after bound a xs < bound → d < 10 → 10 * digits_after bound a xs + d < bound
    → digits_after bound a (xs ++ ((48 + d) ∷ [])) ≡ 10 * digits_after bound a xs + d
unfolding digits_after
digits-snoc bound a [] d l k h =
    let e : 48 + d - 48 ≡ d = omega arith in
    rw (le-leb 48 (48 + d) (omega arith), lt-ltb (48 + d) 58 (omega arith), e, lt-ltb (10 * a + d) bound h)
digits-snoc bound a (x ∷ xs) d l k h =
    go (is_digit x && ltb (10 * a + (x - 48)) bound) (digits-snoc bound (10 * a + (x - 48)) xs d) l h
  where
    v : ℕ
    v = digits_after bound (10 * a + (x - 48)) xs

    go : (b : Bool) → (v < bound → d < 10 → 10 * v + d < bound → digits_after bound (10 * a + (x - 48)) (xs ++ ((48 + d) ∷ [])) ≡ 10 * v + d)
        → cond b v (bound + 1) < bound → 10 * cond b v (bound + 1) + d < bound
        → cond b (digits_after bound (10 * a + (x - 48)) (xs ++ ((48 + d) ∷ []))) (bound + 1) ≡ 10 * cond b v (bound + 1) + d
    go true i l h = i l k h
    go false i l h = absurd (omega arith)

digit-read-back : (bound n : ℕ) → n < 10 → n < bound → digits_after bound 0 ((48 + n) ∷ []) ≡ n
unfolding digits_after
digit-read-back bound n h l =
    let e : 10 * 0 + (48 + n - 48) ≡ n = omega arith in
    rw (le-leb 48 (48 + n) (omega arith), lt-ltb (48 + n) 58 (omega arith), e, lt-ltb n bound l)

digits-read-back : (t bound n : ℕ) → n < 10 ^ suc t → n < bound → digits_after bound 0 (digits_of t n) ≡ n
digits-read-back zero bound n m l = rw (digits-one zero n m) (digit-read-back bound n m l)
digits-read-back (suc t) bound n m l = elim (dec_lt n 10) [
  | yes h ↦ rw (digits-one (suc t) n h) (digit-read-back bound n h l)
  | no h ↦ (
      let i = digits-read-back t bound (n / 10) (omega arith) (omega arith) in
      rw (digits-split t n (omega arith))
      (digits-snoc bound 0 (digits_of t (n / 10)) (n % 10) (omega arith) (omega arith) (omega arith) ∙ omega arith)
      )
]

-- no zero stands first in the text of a number above 0
first-digit-some : (t n : ℕ) → n < 10 ^ suc t → 0 < n → get_or (digits_of t n) 0 0 ≡ 48 → ⊥
first-digit-some zero n m p e = let z : 48 + n ≡ 48 = rw (digits-one zero n m) at e in omega arith
first-digit-some (suc t) n m p e = elim (dec_lt n 10) [
  | yes h ↦ (let z : 48 + n ≡ 48 = rw (digits-one (suc t) n h) at e in omega arith)
  | no h ↦ first-digit-some t (n / 10) (omega arith) (omega arith)
      (sym (get_or-append (digits_of t (n / 10)) ((48 + n % 10) ∷ []) 0 0 (digits-some t (n / 10))) ∙ rw (digits-split t n (omega arith)) at e)
]

pub number-of-digits : (t bound n : ℕ) → n < 10 ^ suc t → n < bound → number_of bound (digits_of t n) ≡ n
number-of-digits t bound n m l =
    number_digits bound (digits_of t n) (λ e. let h = digits-some t n in omega arith) (λ k e. elim (dec_lt 0 n) [
      | yes p ↦ first-digit-some t n m p e
      | no p ↦ (let h = ap length (digits-one t n (omega arith)) in omega arith)
    ])
    ∙ digits-read-back t bound n m l

pub without-append : (y : ℕ) (xs ys : List ℕ) → T (without y xs) → T (without y ys) → T (without y (xs ++ ys))
unfolding without
without-append y [] ys s t = t
without-append y (x ∷ xs) ys s t =
    and_intro (not (eqb x y)) (without y (xs ++ ys)) (and_l (not (eqb x y)) (without y xs) s)
    (without-append y xs ys (and_r (not (eqb x y)) (without y xs) s) t)

without-one : (y d : ℕ) → y < 48 → T (without y ((48 + d) ∷ []))
unfolding without
without-one y d l = and_intro (not (eqb (48 + d) y)) true (not_T (eqb (48 + d) y) (λ q. let e = eqb→eq (48 + d) y q in omega arith)) tt

-- a byte below 48, as a tab and a line feed, stands in no number's text
pub digits-without : (y t n : ℕ) → y < 48 → T (without y (digits_of t n))
unfolding digits_of
digits-without y zero n l = without-one y n l
digits-without y (suc t) n l = elim (dec_lt n 10) [
  | yes h ↦ rw (digits-one (suc t) n h) (without-one y n l)
  | no h ↦ rw (digits-split t n (omega arith))
      (without-append y (digits_of t (n / 10)) ((48 + n % 10) ∷ []) (digits-without y t (n / 10) l) (without-one y (n % 10) l))
]

-- ---- only the text of a number is read as it

-- what is known of a digit that was read
digits-read : (bound a x : ℕ) (xs : List ℕ) → digits_after bound a (x ∷ xs) < bound
    → (48 ≤ x) × (x < 58) × (10 * a + (x - 48) < bound) × (digits_after bound a (x ∷ xs) ≡ digits_after bound (10 * a + (x - 48)) xs)
unfolding digits_after
digits-read bound a x xs = go (leb 48 x) (ltb x 58) (ltb n bound) refl refl refl
  where
    n : ℕ
    n = 10 * a + (x - 48)

    go : (p q r : Bool) → leb 48 x ≡ p → ltb x 58 ≡ q → ltb n bound ≡ r → cond ((p && q) && r) (digits_after bound n xs) (bound + 1) < bound
        → (48 ≤ x) × (x < 58) × (n < bound) × (cond ((p && q) && r) (digits_after bound n xs) (bound + 1) ≡ digits_after bound n xs)
    go true true true e f g h = (leb-true 48 x e, ltb-true x 58 f, ltb-true n bound g, refl)
    go true true false e f g h = absurd (omega arith)
    go true false r e f g h = absurd (omega arith)
    go false q r e f g h = absurd (omega arith)

first-digit : (t x : ℕ) → 48 ≤ x → x < 58 → digits_of t (10 * 0 + (x - 48)) ≡ x ∷ []
first-digit t x l k = let e : 48 + (10 * 0 + (x - 48)) ≡ x = omega arith in rw (digits-one t (10 * 0 + (x - 48)) (omega arith), e)

digits_more : (t a d : ℕ) → 0 < a → d < 10 → 10 * a + d < 10 ^ suc t → digits_of t (10 * a + d) ≡ digits_of t a ++ ((48 + d) ∷ [])
digits_more t a d p k l =
    let tens : (10 * a + d) / 10 ≡ a = omega arith in
    let ones : (10 * a + d) % 10 ≡ d = omega arith in
    digits-shift t (10 * a + d) (omega arith) l ∙ rw (tens, ones)

digits_decimal : (t bound a : ℕ) (xs : List ℕ) → bound ≤ 10 ^ suc t → 0 < a → digits_after bound a xs < bound
    → digits_of t (digits_after bound a xs) ≡ digits_of t a ++ xs
unfolding digits_after
digits_decimal t bound a [] m p h = sym (append-nil (digits_of t a))
digits_decimal t bound a (x ∷ xs) m p h =
    let r = digits-read bound a x xs h in
    let d : 48 + (x - 48) ≡ x = omega arith in
    let i = digits_decimal t bound (10 * a + (x - 48)) xs m (omega arith) (rw r.3 at h) in
    ap (digits_of t) r.3 ∙ i ∙ rw (digits_more t a (x - 48) p (omega arith) (omega (arith, r.2)), d, append_assoc)

-- a text is read as a number below the bound only if it is the text of that number
pub digits-of-number : (t bound : ℕ) (xs : List ℕ) → bound ≤ 10 ^ suc t → number_of bound xs < bound → digits_of t (number_of bound xs) ≡ xs
unfolding number_of digits_after
digits-of-number t bound [] m h = absurd (omega arith)
digits-of-number t bound (x ∷ []) m h =
    let r = digits-read bound 0 x [] h in
    ap (digits_of t) r.3 ∙ first-digit t x r.0 r.1
digits-of-number t bound (x ∷ y ∷ ys) m h = go (eqb x 48) refl h
  where
    go : (b : Bool) → eqb x 48 ≡ b → cond b (unreadable bound) (digits_after bound 0 (x ∷ y ∷ ys)) < bound
        → digits_of t (cond b (unreadable bound) (digits_after bound 0 (x ∷ y ∷ ys))) ≡ x ∷ y ∷ ys
    go true e h = absurd (omega arith)
    go false e h =
        let r = digits-read bound 0 x (y ∷ ys) h in
        let n = eqb-false x 48 e in
        ap (digits_of t) r.3 ∙ digits_decimal t bound (10 * 0 + (x - 48)) (y ∷ ys) m (omega arith) (rw r.3 at h)
        ∙ ap (λ f. f ++ (y ∷ ys)) (first-digit t x r.0 r.1)

-- no text is read as the bound itself
digits-never : (bound a : ℕ) (xs : List ℕ) → a < bound → digits_after bound a xs ≡ bound → ⊥
unfolding digits_after
digits-never bound a [] l e = absurd (omega arith)
digits-never bound a (x ∷ xs) l e = elim (dec_lt (digit_after bound a x) bound) [
  | yes k ↦ digits-never bound (digit_after bound a x) xs k (sym (digit-again bound a x xs k) ∙ e)
  | no k ↦ (let z = digit-stop bound a x xs (omega arith) in absurd (omega arith))
]

pub number-never : (bound : ℕ) → 0 < bound → (xs : List ℕ) → number_of bound xs ≡ bound → ⊥
unfolding number_of
number-never bound p [] e = omega arith
number-never bound p (x ∷ []) e = digits-never bound 0 (x ∷ []) p e
number-never bound p (x ∷ y ∷ ys) e = go (eqb x 48) e
  where
    go : (b : Bool) → cond b (unreadable bound) (digits_after bound 0 (x ∷ y ∷ ys)) ≡ bound → ⊥
    go true e = omega arith
    go false e = digits-never bound 0 (x ∷ y ∷ ys) p e
