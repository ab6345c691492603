-- Laws: The constants of an edit: one test over all rows, and one over all marks.
use Rattle.std.specs.Prelude.{◌≡◌, Bool, ◌&&◌, ◌||◌, List, ◌++◌, eqb, ltb, leb, length, get_or, take, drop, replicate}
use Rattle.std.proofs.Math.Path.{refl, sym, ap}
use Rattle.std.proofs.Common.{◌∙◌, subst, le-ltb, lit<, get_or-append-add, get_or-take, get_or-drop}
use Rattle.std.proofs.Math.Bool.{true, false, not}
use Prim.Native.Nat.{ℕ, suc, ◌+◌, ◌-◌, ◌<◌, ◌≤◌}
use native.Mathlib.Omega.{arith}
use Rattle.std.proofs.lemmas.Bool.{lt-leb}
use Rattle.std.proofs.Math.Dec.{T, eqb→eq}
use Rattle.std.proofs.Math.ListN.{length-append, length-take, length-drop, length-replicate, get_or-append}
use Rattle.std.proofs.lemmas.List.{get_or-replicate}
use Rattle.counting.specs.Test.{all_below}
use Rattle.counting.specs.TestLaws.{and_l, and_r, all-at}
use Rattle.counting.specs.Count.{total_below}
use Rattle.binary_field.specs.Xor.{◌⊕◌, masked}
use Rattle.binary_field.specs.Product.{double, bit_sum, product}
use Rattle.binary_field.specs.ProductLaws.{product-zero, product-one, product-assoc}
use Rattle.binary_field.specs.Power.{power}
use Rattle.binary_field.specs.PowerLaws.{power-add}
use Rattle.binary_field.specs.Sum.{sum_below, inner_product}
use Rattle.code.specs.Edition.{times, raised}
use Rattle.code.specs.Word.{group_sum, local_sum, coefficient, second_coefficient}
use Rattle.code.specs.Marks.{lost, lost_in}
use Rattle.byte_edition.specs.Edition.{byte_edition}
use Rattle.byte_edition.specs.Rows.{power_rows, first_rows, second_rows, no_row}
use Rattle.syndrome.specs.PartsLaws.{power-group, first_group, second_group}
use Rattle.code_engine.specs.PartsLaws.{second-coefficient-group}
use Rattle.edit.specs.Rows.{tail_marks, local_marks, first_fixes, second_fixes, row_start, fix_of}

-- ---- the rows
-- the inner product of a row with row i of the coefficients
abbrev inner : List ℕ → ℕ → ℕ → List (List ℕ) → ℕ → ℕ
inner fixes w c rows i = inner_product 8 285 w (fix_of fixes w c) (get_or rows i no_row)

local_right : ℕ → ℕ → ℕ → Bool
local_right i w e = eqb (inner first_fixes w (suc i) power_rows e) 0 && eqb (inner second_fixes w (suc i) power_rows e) 0

first_right : ℕ → ℕ → Bool
first_right i w = eqb (inner first_fixes w (suc i) first_rows i) 1 && eqb (inner first_fixes w (suc i) second_rows i) 0

second_right : ℕ → ℕ → Bool
second_right i w =
    eqb (inner second_fixes w (suc i) first_rows i) 0 && eqb (product 8 285 (power 8 285 2 14) (inner second_fixes w (suc i) second_rows i)) 1

fix_right : ℕ → ℕ → Bool
fix_right i w = all_below (suc i) (local_right i w) && (first_right i w && second_right i w)

rule : T (all_below 3 (λ i. all_below 17 (λ w. (ltb w (i + 3) || fix_right i w))))
unfolding fix_right local_right first_right second_right fix_of first_fixes second_fixes power_rows first_rows second_rows inner_product sum_below power product bit_sum
    double masked ◌⊕◌
rule = tt

module _ (w i : ℕ) (few : i < 3) (wide : i + 3 ≤ w) (narrow : w ≤ 16) where
  tested : T (fix_right i w)
  tested =
      subst (λ b. T (b || fix_right i w)) (le-ltb w (i + 3) wide)
      (all-at 17 (λ w. (ltb w (i + 3) || fix_right i w)) (all-at 3 (λ i. all_below 17 (λ w. (ltb w (i + 3) || fix_right i w))) rule i few) w
      (omega arith))

  pub fix-length : (fixes : List ℕ) → length fixes ≡ 200 → length (fix_of fixes w (suc i)) ≡ w
  unfolding fix_of
  fix-length fixes size =
      length-append (replicate (w - (suc i + 2)) 0) (take (suc i + 2) (drop (row_start w (suc i)) fixes))
      ∙ omega (
        arith,
        length-replicate {A = ℕ} (w - (suc i + 2)) 0,
        length-take (suc i + 2) (drop (row_start w (suc i)) fixes),
        length-drop
            (row_start w (suc i)) fixes,
      )

  first-long : length (fix_of first_fixes w (suc i)) ≡ w
  unfolding first_fixes
  first-long = fix-length first_fixes refl

  second-long : length (fix_of second_fixes w (suc i)) ≡ w
  unfolding second_fixes
  second-long = fix-length second_fixes refl

  -- sums of such a stretch, as inner products with the rows of coefficients
  module _ (part : List ℕ) (long : length part ≡ w) where
    less : suc i - 1 ≡ i
    less = omega arith

    short : length part ≤ 16
    short = subst (λ n. n ≤ 16) (sym long) narrow

    power-sum : (e : ℕ) → e < suc i → inner_product 8 285 w part (get_or power_rows e no_row) ≡ local_sum byte_edition w part 0 e
    power-sum e l = subst (λ n. inner_product 8 285 n part (get_or power_rows e no_row) ≡ local_sum byte_edition n part 0 e) long
        (power-group part short e (omega arith))

    first-sum : inner_product 8 285 w part (get_or first_rows i no_row) ≡ group_sum byte_edition w part 0 (coefficient byte_edition (suc i))
    first-sum =
        ap (λ k. inner_product 8 285 w part (get_or first_rows k no_row)) (sym less)
        ∙ subst (λ n. inner_product 8 285 n part (get_or first_rows (suc i - 1) no_row) ≡ group_sum byte_edition n part 0 (coefficient byte_edition (suc i))) long
        (first_group part short (suc i) (omega arith) (omega arith))

    second-sum : (g : ℕ) → times byte_edition (raised byte_edition 2 g) (inner_product 8 285 w part (get_or second_rows i no_row))
        ≡ group_sum byte_edition w part 0 (second_coefficient byte_edition (suc i) g)
    second-sum g =
        ap (λ k. times byte_edition (raised byte_edition 2 g) (inner_product 8 285 w part (get_or second_rows k no_row))) (sym less)
        ∙ subst (λ n. times byte_edition (raised byte_edition 2 g) (inner_product 8 285 n part (get_or second_rows (suc i - 1) no_row)) ≡ group_sum byte_edition n part 0
        (second_coefficient byte_edition (suc i) g)) long
        (ap (times byte_edition (raised byte_edition 2 g)) (second_group part short (suc i) (omega arith) (omega arith))
        ∙ second-coefficient-group byte_edition (length part) (suc i) g part)

  -- both meet the group's own equations
  module _ (e : ℕ) (l : e < suc i) where
    locals : T (local_right i w e)
    unfolding fix_right
    locals = all-at (suc i) (local_right i w) (and_l (all_below (suc i) (local_right i w)) _ tested) e l

    pub first-local : local_sum byte_edition w (fix_of first_fixes w (suc i)) 0 e ≡ 0
    unfolding local_right
    first-local = sym (power-sum (fix_of first_fixes w (suc i)) first-long e l) ∙ eqb→eq _ 0 (and_l (eqb (inner first_fixes w (suc i) power_rows e) 0) _ locals)

    pub second-local : local_sum byte_edition w (fix_of second_fixes w (suc i)) 0 e ≡ 0
    unfolding local_right
    second-local =
        sym (power-sum (fix_of second_fixes w (suc i)) second-long e l) ∙ eqb→eq _ 0 (and_r (eqb (inner first_fixes w (suc i) power_rows e) 0) _ locals)

  firsts : T (first_right i w)
  unfolding fix_right
  firsts = and_l (first_right i w) _ (and_r (all_below (suc i) (local_right i w)) _ tested)

  seconds : T (second_right i w)
  unfolding fix_right
  seconds = and_r (first_right i w) _ (and_r (all_below (suc i) (local_right i w)) _ tested)

  -- what the first adds to the sums across, and what the second
  pub first-first : group_sum byte_edition w (fix_of first_fixes w (suc i)) 0 (coefficient byte_edition (suc i)) ≡ 1
  unfolding first_right
  first-first = sym (first-sum (fix_of first_fixes w (suc i)) first-long) ∙ eqb→eq _ 1 (and_l (eqb (inner first_fixes w (suc i) first_rows i) 1) _ firsts)

  pub first-second : (g : ℕ) → group_sum byte_edition w (fix_of first_fixes w (suc i)) 0 (second_coefficient byte_edition (suc i) g) ≡ 0
  unfolding first_right
  first-second g =
      sym (second-sum (fix_of first_fixes w (suc i)) first-long g)
      ∙ ap (times byte_edition (raised byte_edition 2 g)) (eqb→eq _ 0 (and_r (eqb (inner first_fixes w (suc i) first_rows i) 1) _ firsts)) ∙ product-zero 8 285
      (raised byte_edition 2 g)

  pub second-first : group_sum byte_edition w (fix_of second_fixes w (suc i)) 0 (coefficient byte_edition (suc i)) ≡ 0
  unfolding second_right
  second-first = sym (first-sum (fix_of second_fixes w (suc i)) second-long) ∙ eqb→eq _ 0 (and_l (eqb (inner second_fixes w (suc i) first_rows i) 0) _ seconds)

  -- the factor 2^(15 − m) makes up for the factor 2^(m − 1) of the last group
  pub second-second : (m t : ℕ) → 1 ≤ m → m ≤ 15 → t < 256
      → times byte_edition (times byte_edition t (raised byte_edition 2 (15 - m)))
      (group_sum byte_edition w (fix_of second_fixes w (suc i)) 0 (second_coefficient byte_edition (suc i) (m - 1))) ≡ t
  unfolding second_right
  second-second m t some most small =
      let s = inner second_fixes w (suc i) second_rows i in
      let e : 15 - m + (m - 1) ≡ 14 = omega arith in
      ap (times byte_edition (times byte_edition t (raised byte_edition 2 (15 - m)))) (sym (second-sum (fix_of second_fixes w (suc i)) second-long (m - 1)))
      ∙ product-assoc 8 285 t (raised byte_edition 2 (15 - m)) _
      ∙ ap (times byte_edition t) (sym (product-assoc 8 285 (raised byte_edition 2 (15 - m)) (raised byte_edition 2 (m - 1)) s)
      ∙ ap (λ a. product 8 285 a s) (sym (power-add 8 285 (lit< tt) 2 (15 - m) (m - 1)) ∙ ap (power 8 285 2) e)
      ∙ eqb→eq (product 8 285 (power 8 285 2 14) s) 1 (and_r (eqb (inner second_fixes w (suc i) first_rows i) 0) _ seconds))
      ∙ product-one 8 285 (lit< tt) t small

-- the entries of a row's stretch: 0, and at the last c+2 places the row
pub fix-before : (fixes : List ℕ) (w c j : ℕ) → j < w - (c + 2) → get_or (fix_of fixes w c) j 0 ≡ 0
unfolding fix_of
fix-before fixes w c j l =
    get_or-append (replicate (w - (c + 2)) 0) _ 0 j (subst (λ n. j < n) (sym (length-replicate (w - (c + 2)) 0)) l) ∙ get_or-replicate (w - (c + 2)) j 0 0 l

pub fix_after : (fixes : List ℕ) (w c j : ℕ) → j < c + 2 → get_or (fix_of fixes w c) (w - (c + 2) + j) 0 ≡ get_or fixes (row_start w c + j) 0
unfolding fix_of
fix_after fixes w c j l =
    ap (λ n. get_or (replicate (w - (c + 2)) 0 ++ take (c + 2) (drop (row_start w c) fixes)) (n + j) 0) (sym (length-replicate {A = ℕ} (w - (c + 2)) 0))
    ∙ get_or-append-add (replicate (w - (c + 2)) 0) (take (c + 2) (drop (row_start w c) fixes)) j 0 ∙ get_or-take (c + 2) (drop (row_start w c) fixes) j 0 l
    ∙ get_or-drop (row_start w c) fixes j 0

-- ---- the marks
place_right : ℕ → ℕ → ℕ → Bool
place_right i w j = leb w (j + suc i) || not (lost (local_marks w (suc i)) j)

count_right : ℕ → ℕ → Bool
count_right i w = eqb (lost_in w (local_marks w (suc i)) 0) (suc i)

mark_right : ℕ → ℕ → Bool
mark_right i w = count_right i w && all_below w (place_right i w)

mark-rule : T (all_below 3 (λ i. all_below 17 (λ w. (ltb w (i + 3) || mark_right i w))))
unfolding mark_right count_right place_right tail_marks lost_in total_below
mark-rule = tt

module _ (w i : ℕ) (few : i < 3) (wide : i + 3 ≤ w) (narrow : w ≤ 16) where
  mark-tested : T (mark_right i w)
  mark-tested =
      subst (λ b. T (b || mark_right i w)) (le-ltb w (i + 3) wide)
      (all-at 17 (λ w. (ltb w (i + 3) || mark_right i w))
      (all-at 3 (λ i. all_below 17 (λ w. (ltb w (i + 3) || mark_right i w))) mark-rule i few) w (omega arith))

  pub marks-long : length (local_marks w (suc i)) ≡ w
  unfolding tail_marks
  marks-long = length-take w (drop (15 + suc i - w) tail_marks) ∙ omega (arith, length-drop (15 + suc i - w) tail_marks)

  pub marks-count : lost_in w (local_marks w (suc i)) 0 ≡ suc i
  unfolding mark_right count_right
  marks-count = eqb→eq _ (suc i) (and_l (count_right i w) _ mark-tested)

  pub marks-present : (j : ℕ) → j + suc i < w → lost (local_marks w (suc i)) j ≡ false
  unfolding mark_right place_right
  marks-present j l =
      let t = all-at w (place_right i w) (and_r (count_right i w) _ mark-tested) j (omega arith) in
      not-false' (lost (local_marks w (suc i)) j) (subst (λ b. T (b || not (lost (local_marks w (suc i)) j))) (lt-leb w (j + suc i) l) t)
    where
      not-false' : (b : Bool) → T (not b) → b ≡ false
      not-false' true h = absurd h
      not-false' false h = refl
