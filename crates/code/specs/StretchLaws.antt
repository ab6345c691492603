-- Laws: One group's stretch of a word or of marks, from g·w to (g+1)·w, and a list with another stretch put in its place.
use Rattle.std.specs.Prelude.{◌≡◌, Bool, List, ◌++◌, eqb}
use Rattle.std.proofs.Common.{sym, ◌∙◌, zero-mul, zero-add, ext_get_or, length-take-le, drop-drop}
use Rattle.std.proofs.Math.Path.{ap, ap₂, subst}
use Prim.Native.Nat.{ℕ, suc, ◌+◌, ◌-◌, ◌*◌, ◌<◌, ◌≤◌}
use Rattle.std.proofs.Math.Nat.{suc-mul}
use native.Mathlib.Omega.{arith}
use Rattle.std.proofs.Math.Decide.{dec_lt}
use Rattle.std.proofs.Math.ListN.{length, get_or, take, drop, length-append, length-take, length-drop, take-append-drop, get_or-append, get_or-eq_default}
use Rattle.std.proofs.Math.Seq.{get_or-take, get_or-drop, get_or-append-add}
use Rattle.counting.specs.Count.{one}
use Rattle.counting.specs.CountLaws.{total_ext}
use Rattle.binary_field.specs.SumLaws.{sum-ext}
use Rattle.code.specs.Edition.{Edition, times}
use Rattle.code.specs.Word.{group_sum}
use Rattle.code.specs.Marks.{lost, lost_in}
use Rattle.code.specs.Stretch.{stretch, with_stretch}

module _ (w g : ℕ) (xs : List ℕ) where
  pub stretch-at : (j : ℕ) → j < w → get_or (stretch w g xs) j 0 ≡ get_or xs (g * w + j) 0
  unfolding stretch
  stretch-at j h = get_or-take w (drop (g * w) xs) j 0 h ∙ get_or-drop (g * w) xs j 0

  -- a bound on every entry holds of the stretch
  pub stretch-below : (b : ℕ) → ((p : ℕ) → get_or xs p 0 < b) → (j : ℕ) → get_or (stretch w g xs) j 0 < b
  unfolding stretch
  stretch-below b h j = elim (dec_lt j w) [
    | yes l ↦ subst (λ n. n < b) (sym (stretch-at j l)) (h (g * w + j))
    | no l ↦
        (let k : length (take w (drop (g * w) xs)) ≤ j = omega (arith, length-take w (drop (g * w) xs)) in
        subst (λ n. n < b) (sym (get_or-eq_default (take w (drop (g * w) xs)) 0 k)) (let z = h 0 in omega arith))
  ]

  module _ (fits : suc g * w ≤ length xs) where
    room : g * w + w ≤ length xs
    room = subst (λ n. n ≤ length xs) (suc-mul g w) fits

    pub stretch-length : length (stretch w g xs) ≡ w
    unfolding stretch
    stretch-length = length-take w (drop (g * w) xs) ∙ (let r = room in omega (arith, length-drop (g * w) xs))

    -- its own stretch put back
    pub with-same : with_stretch w g xs (stretch w g xs) ≡ xs
    unfolding with_stretch stretch
    with-same =
        let e : suc g * w ≡ g * w + w = suc-mul g w in
        ap (λ n. take (g * w) xs ++ (take w (drop (g * w) xs) ++ drop n xs)) e
        ∙ ap (λ s. take (g * w) xs ++ (take w (drop (g * w) xs) ++ s)) (sym (drop-drop w (g * w) xs))
        ∙ ap (λ s. take (g * w) xs ++ s) (take-append-drop w (drop (g * w) xs)) ∙ take-append-drop (g * w) xs

    module _ (part : List ℕ) (size : length part ≡ w) where
      front : length (take (g * w) xs) ≡ g * w
      front = length-take-le (g * w) xs (let r = room in omega arith)

      pub with-length : length (with_stretch w g xs part) ≡ length xs
      unfolding with_stretch
      with-length =
          let r = room in
          let e : suc g * w ≡ g * w + w = suc-mul g w in
          omega (
            arith,
            length-append (take (g * w) xs) (part ++ drop (suc g * w) xs),
            length-append part (drop (suc g * w) xs),
            length-drop
                (suc g * w) xs,
            front,
          )

      -- inside the stretch the new part stands
      pub with-inside : (j : ℕ) → j < w → get_or (with_stretch w g xs part) (g * w + j) 0 ≡ get_or part j 0
      unfolding with_stretch
      with-inside j h =
          ap (λ n. get_or (take (g * w) xs ++ (part ++ drop (suc g * w) xs)) (n + j) 0) (sym front)
          ∙ get_or-append-add (take (g * w) xs) (part ++ drop (suc g * w) xs) j 0
          ∙ get_or-append part (drop (suc g * w) xs) 0 j (subst (λ n. j < n) (sym size) h)

      -- outside nothing changes
      pub with-before : (p : ℕ) → p < g * w → get_or (with_stretch w g xs part) p 0 ≡ get_or xs p 0
      unfolding with_stretch
      with-before p h =
          get_or-append (take (g * w) xs) (part ++ drop (suc g * w) xs) 0 p (subst (λ n. p < n) (sym front) h) ∙ get_or-take (g * w) xs p 0 h

      pub with-after : (p : ℕ) → suc g * w ≤ p → get_or (with_stretch w g xs part) p 0 ≡ get_or xs p 0
      unfolding with_stretch
      with-after p h =
          let e : suc g * w ≡ g * w + w = suc-mul g w in
          let d : p ≡ g * w + (w + (p - suc g * w)) = omega arith in
          let d' : suc g * w + (p - suc g * w) ≡ p = omega arith in
          ap (λ n. get_or (take (g * w) xs ++ (part ++ drop (suc g * w) xs)) n 0) (d ∙ ap₂ (λ a b. a + (b + (p - suc g * w))) (sym front) (sym size))
          ∙ get_or-append-add (take (g * w) xs) (part ++ drop (suc g * w) xs) (length part + (p - suc g * w)) 0
          ∙ get_or-append-add part (drop (suc g * w) xs) (p - suc g * w) 0 ∙ get_or-drop (suc g * w) xs (p - suc g * w) 0 ∙ ap (λ n. get_or xs n 0) d'

-- the stretch of a list with part put in is part
pub stretch-with : (w g : ℕ) (xs part : List ℕ) → suc g * w ≤ length xs → length part ≡ w → stretch w g (with_stretch w g xs part) ≡ part
stretch-with w g xs part fits size =
    ext_get_or 0 (stretch w g (with_stretch w g xs part)) part (long ∙ sym size) λ j l.
    let k : j < w = subst (λ n. j < n) long l in
    stretch-at w g (with_stretch w g xs part) j k ∙ with-inside w g xs fits part size j k
  where
    long : length (stretch w g (with_stretch w g xs part)) ≡ w
    long = stretch-length w g (with_stretch w g xs part) (subst (λ n. suc g * w ≤ n) (sym (with-length w g xs fits part size)) fits)

-- lists of the same length have stretches of the same length
pub stretch-lengths : (w g : ℕ) (xs ys : List ℕ) → length xs ≡ length ys → length (stretch w g xs) ≡ length (stretch w g ys)
unfolding stretch
stretch-lengths w g xs ys size =
    omega (arith, length-take w (drop (g * w) xs), length-take w (drop (g * w) ys), length-drop (g * w) xs, length-drop (g * w) ys, size)

-- a place inside a stretch, however long the list is
pub in-stretch : (w g : ℕ) (xs : List ℕ) (j : ℕ) → j < length (stretch w g xs) → j < w
unfolding stretch
in-stretch w g xs j l = omega (arith, length-take w (drop (g * w) xs))

pub in_list : (w g : ℕ) (xs : List ℕ) (j : ℕ) → j < length (stretch w g xs) → g * w + j < length xs
unfolding stretch
in_list w g xs j l = omega (arith, length-take w (drop (g * w) xs), length-drop (g * w) xs)

-- lists of the same length that agree on a group have the same stretch of it
pub stretch-ext : (w g : ℕ) (xs ys : List ℕ) → length xs ≡ length ys
    → ((j : ℕ) → j < w → get_or xs (g * w + j) 0 ≡ get_or ys (g * w + j) 0) → stretch w g xs ≡ stretch w g ys
stretch-ext w g xs ys size same =
    ext_get_or 0 (stretch w g xs) (stretch w g ys) (stretch-lengths w g xs ys size) λ j l.
    let k : j < w = in-stretch w g xs j l in
    stretch-at w g xs j k ∙ same j k ∙ sym (stretch-at w g ys j k)

-- place j of a stretch by itself, as its only group has it
pub own-place : (w j : ℕ) → 0 * w + j ≡ j
own-place w j = ap (λ n. n + j) (zero-mul w) ∙ zero-add j

-- sums and counts of a group are those of its stretch
pub stretch-sum : (E : Edition) (w g : ℕ) (word : List ℕ) (h : ℕ → ℕ) → group_sum E w (stretch w g word) 0 h ≡ group_sum E w word g h
unfolding group_sum
stretch-sum E w g word h =
    sum-ext w _ _ (λ j l. ap (λ b. times E b (h j)) (ap (λ n. get_or (stretch w g word) n 0) (own-place w j) ∙ stretch-at w g word j l))

pub stretch-lost : (w g : ℕ) (marks : List ℕ) (j : ℕ) → j < w → lost (stretch w g marks) (0 * w + j) ≡ lost marks (g * w + j)
stretch-lost w g marks j l = ap (λ b. lost-mark b) (ap (λ n. get_or (stretch w g marks) n 0) (own-place w j) ∙ stretch-at w g marks j l)
  where
    lost-mark : ℕ → Bool
    lost-mark b = eqb b 1

pub stretch-count : (w g : ℕ) (marks : List ℕ) → lost_in w (stretch w g marks) 0 ≡ lost_in w marks g
unfolding lost_in
stretch-count w g marks = total_ext w _ _ (λ j l. ap one (stretch-lost w g marks j l))

-- a place before, inside or after a stretch
pub place-cases : (P : ℕ → Type 0) (w g : ℕ) → ((p : ℕ) → p < g * w → P p) → ((j : ℕ) → j < w → P (g * w + j)) → ((p : ℕ) → suc g * w ≤ p → P p) → (p : ℕ) → P p
place-cases P w g before inside after p = elim (dec_lt p (g * w)) [
  | yes h ↦ before p h
  | no h ↦ elim (dec_lt p (suc g * w)) [
    | yes k ↦
        (let e : suc g * w ≡ g * w + w = suc-mul g w in
        let d : g * w + (p - g * w) ≡ p = omega arith in
        subst P d (inside (p - g * w) (omega arith)))
    | no k ↦ after p (omega arith)
  ]
]
