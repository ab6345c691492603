-- Laws: Rows of pairs. The rule of the coefficients by one computed test, and the sums with them.
use Rattle.std.specs.Prelude.{◌≡◌, Bool, ◌&&◌, List, [], ◌++◌, ℕ, suc, ◌+◌, ◌-◌, ◌*◌, ◌<◌, ◌≤◌, T, eqb, length, get_or, take, drop}
use Rattle.std.proofs.Common.{sym, ap, ap₂, ◌∙◌, subst, arith, eqb→eq, length-take, length-drop, get_or-take, get_or-drop, length-take-le, take_at}
use Rattle.std.proofs.Math.Seq.{length_front}
use Rattle.counting.specs.Test.{all_below}
use Rattle.counting.specs.TestLaws.{all-at, and_l, and_r}
use Rattle.binary_field.specs.Xor.{◌⊕◌}
use Rattle.binary_field.specs.Product.{product}
use Rattle.binary_field.specs.Power.{power}
use Rattle.binary_field.specs.Sum.{sum_below}
use Rattle.binary_field.specs.SumLaws.{sum-ext}
use Rattle.code.specs.Edition.{raised}
use Rattle.code.specs.Word.{group_sum, coefficient}
use Rattle.code.specs.StretchLaws.{own-place}
use Rattle.wide_field.specs.LocatorRow.{locator_row}
use Rattle.wide_field.specs.LocatorRowLaws.{row_at}
use Rattle.wide_shape.specs.Edition.{wide_edition}
use Rattle.wide_shape.specs.EditionLaws.{wide-sound}
use Rattle.wide_sums.specs.PowerSumsLaws.{second-coefficient-at, two-small}
use Rattle.wide_sums.specs.PowerSums.{EachTimes}
use Rattle.wide_across.specs.Pairs.{Coefficients, AllCoefficients, Paired}

-- b and b^256 of place j with i + 1 local checks, from its locator; 2863 is 2^256
unfoldable pub mixed : ℕ → ℕ → ℕ → ℕ
mixed f i j = power 16 69643 (get_or locator_row j 0) (suc i) ⊕ product 16 69643 f (power 16 69643 (get_or locator_row j 0) (suc (suc i)))

unfoldable pub pair_right : List ℕ → ℕ → ℕ → Bool
pair_right row i j = eqb (get_or row (i * 32 + 2 * j) 0) (mixed 2 i j) && eqb (get_or row (i * 32 + 2 * j + 1) 0) (mixed 2863 i j)

-- the whole row is right
unfoldable pub row_right : List ℕ → Bool
row_right row = all_below 4 (λ i. all_below 16 (pair_right row i))

first-is : (i j : ℕ) → j < 16 → mixed 2 i j ≡ coefficient wide_edition (suc i) j
unfolding mixed coefficient
first-is i j l =
    ap (λ a. power 16 69643 a (suc i) ⊕ product 16 69643 2 (power 16 69643 a (suc (suc i)))) (row_at j (omega arith))

second_is : (i j : ℕ) → j < 16 → mixed 2863 i j ≡ raised wide_edition (coefficient wide_edition (suc i) j) 256
unfolding mixed
second_is i j l =
    ap (λ a. power 16 69643 a (suc i) ⊕ product 16 69643 2863 (power 16 69643 a (suc (suc i)))) (row_at j (omega arith))
    ∙ ap (λ t. power 16 69643 (wide_edition.locator j) (suc i) ⊕ product 16 69643 t (power 16 69643 (wide_edition.locator j) (suc (suc i)))) (sym two-small)
    ∙ sym (second-coefficient-at wide-sound 16 (omega arith) (suc i) [] j l)

-- the test gives the rule at each entry
pub row-rule : (row : List ℕ) → length row ≡ 128 → T (row_right row) → AllCoefficients row
unfolding row_right pair_right
row-rule row e t = record {
  size = e;
  at = λ i h. record {
    first = λ j l. eqb→eq (one i j) (mixed 2 i j) (and_l (eqb (one i j) (mixed 2 i j)) (eqb (two i j) (mixed 2863 i j)) (right i h j l)) ∙ first-is i j l;
    second = λ j l. eqb→eq (two i j) (mixed 2863 i j) (and_r (eqb (one i j) (mixed 2 i j)) (eqb (two i j) (mixed 2863 i j)) (right i h j l)) ∙ second_is i j l;
  };
}
  where
    one : ℕ → ℕ → ℕ
    one i j = get_or row (i * 32 + 2 * j) 0

    two : ℕ → ℕ → ℕ
    two i j = get_or row (i * 32 + 2 * j + 1) 0

    right : (i : ℕ) → i < 4 → (j : ℕ) → j < 16 → T (pair_right row i j)
    right i h j l = all-at 16 (pair_right row i) (all-at 4 (λ k. all_below 16 (pair_right row k)) t i h) j l

-- a sum with coefficients
pub sum-with : (w : ℕ) (x : List ℕ) (k h : ℕ → ℕ) → ((j : ℕ) → j < w → k j ≡ h j)
    → sum_below w (λ j. product 16 69643 (get_or x j 0) (k j)) ≡ group_sum wide_edition w x 0 h
unfolding group_sum
sum-with w x k h e = sum-ext w _ _ (λ j l. ap₂ (λ p b. product 16 69643 (get_or x p 0) b) (sym (own-place w j)) (e j l))

-- an entry of a part of a row
pub part_at : (row : List ℕ) (a e i : ℕ) → i < e - a → get_or (take (e - a) (drop a row)) i 0 ≡ get_or row (a + i) 0
part_at row a e i l = get_or-take (e - a) (drop a row) i 0 l ∙ get_or-drop a row i 0

pub part-size : (row : List ℕ) (a n : ℕ) → a + n ≤ length row → length (take (a + n - a) (drop a row)) ≡ n
part-size row a n l = simp (length-take, length-drop) (omega arith)

-- the coefficients with c local checks
pub coefficients-of : {all : List ℕ} → AllCoefficients all → (c : ℕ) → 0 < c → c ≤ 4 → Coefficients c ((c - 1) * 32) all
coefficients-of {all} A c h l = let e : suc (c - 1) ≡ c = omega arith in subst (λ k. Coefficients k ((c - 1) * 32) all) e (A.at (c - 1) (omega arith))

-- they stand in a part of the row of all
module _ {c a : ℕ} {all : List ℕ} (C : Coefficients c a all) (e : ℕ) where
  pub first-at : (j : ℕ) → j < 16 → 2 * j < e - a → get_or (take (e - a) (drop a all)) (2 * j) 0 ≡ coefficient wide_edition c j
  first-at j h l = part_at all a e (2 * j) l ∙ C.first j h

  pub second_at : (j : ℕ) → j < 16 → 2 * j + 1 < e - a → get_or (take (e - a) (drop a all)) (2 * j + 1) 0 ≡ raised wide_edition (coefficient wide_edition c j) 256
  second_at j h l =
      let d : a + (2 * j + 1) ≡ a + 2 * j + 1 = omega arith in
      part_at all a e (2 * j + 1) l ∙ ap (λ i. get_or all i 0) d ∙ C.second j h

-- pairs with room for w of them, n numbers, times a row
module _ {x y z row t : List ℕ} (P : Paired x y z) (n : ℕ) (enough : 2 * length x ≤ n) (room : n ≤ 32) (E : EachTimes (take n z) row t) where
  front : length (take n z) ≡ n
  front = length-take-le n z (subst (λ k. n ≤ k) (sym P.size) room)

  at_front : (i : ℕ) → i < n → get_or (t ++ drop n z) i 0 ≡ product 16 69643 (get_or z i 0) (get_or row i 0)
  at_front i l =
      sym (get_or-take n (t ++ drop n z) i 0 l) ∙ ap (λ u. get_or u i 0) (take_at t (drop n z) n (E.size ∙ front))
      ∙ E.each i (subst (λ k. i < k) (sym front) l) ∙ ap (λ v. product 16 69643 v (get_or row i 0)) (get_or-take n z i 0 l)

  pub whole-size : length (t ++ drop n z) ≡ 32
  whole-size = length_front z t n E.size ∙ P.size

  -- their sums
  pub first-sum : (h : ℕ → ℕ) → ((j : ℕ) → j < length x → get_or row (2 * j) 0 ≡ h j)
      → sum_below (length x) (λ j. get_or (t ++ drop n z) (2 * j) 0) ≡ group_sum wide_edition (length x) x 0 h
  first-sum h e =
      sum-ext (length x) _ _ (λ j l. at_front (2 * j) (omega arith) ∙ ap (λ v. product 16 69643 v (get_or row (2 * j) 0)) (P.first j l))
      ∙ sum-with (length x) x (λ j. get_or row (2 * j) 0) h e

  pub second-sum : (h : ℕ → ℕ) → ((j : ℕ) → j < length x → get_or row (2 * j + 1) 0 ≡ h j)
      → sum_below (length x) (λ j. get_or (t ++ drop n z) (2 * j + 1) 0) ≡ group_sum wide_edition (length x) y 0 h
  second-sum h e =
      sum-ext (length x) _ _ (λ j l. at_front (2 * j + 1) (omega arith) ∙ ap (λ v. product 16 69643 v (get_or row (2 * j + 1) 0)) (P.second j l))
      ∙ sum-with (length x) y (λ j. get_or row (2 * j + 1) 0) h e
