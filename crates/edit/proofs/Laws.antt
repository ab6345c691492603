-- Laws of the steps: refusals, a group refilled, and the last group corrected.
use mathlib.Core.Path.{◌≡◌, refl, sym, ap, ap₂, ◌∙◌, subst}
use mathlib.Core.Bool.{Bool, true, false, not}
use mathlib.Core.List.{List, ◌++◌, append-nil}
use Prim.Native.Nat.{ℕ, zero, suc, ◌+◌, ◌-◌, ◌*◌, ◌<◌, ◌≤◌}
use native.Mathlib.Nat.{suc-mul, mul-le-mul_right}
use native.Mathlib.Omega.{arith}
use native.Mathlib.Decide.{dec_lt}
use lib.Dec.{leb}
use lib.ListN.{length, get_or, set, take, drop, length-set, length-append, length-drop, drop_of_length-le, replicate, get_or-append}
use lib.Seq.{ext_get_or, get_or-append-add, get_or-take, get_or-drop, length-take-le, take_all}
use Rattle.binary_field.specs.Xor.{◌⊕◌}
use Rattle.binary_field.specs.XorLaws.{⊕-zero-r, ⊕-zero-l, ⊕-self}
use Rattle.binary_field.specs.ProductLaws.{product-zero}
use Rattle.binary_field.specs.SumLaws.{sum-none, sum-suc}
use Rattle.code.specs.Pair.{pair_at}
use Rattle.std.specs.Prelude.{Ok, Err}
use Rattle.answers.specs.declared.Refusal.{Refusal}
use Rattle.answers.specs.Answers.{refusal_number, mending_at, Plain}
use Rattle.answers.specs.AnswersLaws.{refusal-some, else-first, plain-refuse, plain-else}
use Rattle.answers.specs.PlainLaws.{sale-plain, word-plain}
use Rattle.edit.specs.Laws.{mending-refused}
use Rattle.code.specs.Refusals.{◌or_else◌, refuse, unless_refused}
use Rattle.code.specs.RefusalsLaws.{or_else-zero, unless-refused}
use Rattle.shape.specs.Shapes.{byte_limits}
use Rattle.shape.specs.Laws.{sold-of-refusal}
use Rattle.code.specs.Edition.{times, raised}
use Rattle.code.specs.Contradiction.{contradicting_group}
use Rattle.code.specs.Word.{group_sum, local_sum, coefficient, second_coefficient, is_codeword}
use Rattle.code.specs.Combined.{combined}
use Rattle.code.specs.CombinedLaws.{combined-at}
use Rattle.code.specs.Lone.{lone}
use Rattle.code.specs.LoneLaws.{lone-inside, lone-before}
use Rattle.code.specs.Marks.{lost_in}
use Rattle.code.specs.Limits.{data_count, GoodIn, SoldIn, sale_refusal_in, word_refusal_in}
use Rattle.byte_edition.specs.Edition.{byte_edition}
use Rattle.syndrome.specs.declared.Sums.{Sums}
use Rattle.code_engine.specs.Filled.{FilledIn}
use Rattle.code_engine.specs.SolvedLaws.{combined-length}
use Rattle.edit.specs.Edit.{number_refusal_in, edit_refusal_in, edit_in, edited_buffer_in, edited_in}
use Rattle.edit.specs.Rows.{tail_marks, local_marks, first_fixes, second_fixes, row_start, fix_of, fixes_at}
use Rattle.edit.specs.RowsLaws.{fix-length, fix-before, fix_after, marks-long, marks-count, marks-present}
use Rattle.edit.specs.Steps.{Refilled, AddedRows, corrected_of}

-- ---- refusals, in their order
module _ (m w c lent number : ℕ) where
  pub refused-sale : (e : Refusal) → refusal_number e ≡ sale_refusal_in byte_limits m w c → refusal_number e ≡ number_refusal_in byte_limits m w c lent number
  unfolding number_refusal_in
  refused-sale e is = else-first e is _

  pub refused-length : (e : Refusal) → sale_refusal_in byte_limits m w c ≡ 0 → refusal_number e ≡ word_refusal_in byte_limits m w c lent
      → refusal_number e ≡ number_refusal_in byte_limits m w c lent number
  unfolding number_refusal_in
  refused-length e z is =
      else-first e is _ ∙ ap (λ r. r or_else (word_refusal_in byte_limits m w c lent or_else refuse 30 (leb (data_count m w c) number))) (sym z)

  pub refused-number : sale_refusal_in byte_limits m w c ≡ 0 → word_refusal_in byte_limits m w c lent ≡ 0
      → number_refusal_in byte_limits m w c lent number ≡ refuse 30 (leb (data_count m w c) number)
  unfolding number_refusal_in
  refused-number e f =
      ap (λ r. r or_else (word_refusal_in byte_limits m w c lent or_else refuse 30 (leb (data_count m w c) number))) e
      ∙ ap (λ r. r or_else refuse 30 (leb (data_count m w c) number)) f

-- ---- a group refilled
-- the marks as they are lent
pub filled : (c j b : ℕ) (before after : List ℕ) → length before ≤ 15 + c
    → FilledIn byte_edition (take (15 + c - (15 + c - length (set before j b))) (drop (15 + c - length (set before j b)) tail_marks)) (set before j b) after
    → FilledIn byte_edition (local_marks (length before) c) (set before j b) after
filled c j b before after fits F =
    let e = length-set before j b in
    let d : 15 + c - (15 + c - length before) ≡ length before = omega arith in
    subst (λ n. FilledIn byte_edition (take n (drop (15 + c - length before) tail_marks)) (set before j b) after) d
    (subst (λ n. FilledIn byte_edition (take (15 + c - (15 + c - n)) (drop (15 + c - n) tail_marks)) (set before j b) after) e F)

pub refilled : (w c g j b : ℕ) (before after : List ℕ) (sums : Sums) → 1 ≤ c → c ≤ 3 → c + 2 ≤ w → w ≤ 16 → length before ≡ w
    → FilledIn byte_edition (local_marks w c) (set before j b) after
    → sums.first ≡ group_sum byte_edition w before 0 (coefficient byte_edition c) ⊕ group_sum byte_edition (length after) after 0 (coefficient byte_edition c)
    → sums.second ≡ group_sum byte_edition w before 0 (second_coefficient byte_edition c g) ⊕ group_sum byte_edition (length after) after 0
    (second_coefficient byte_edition c g)
    → Refilled w c g j b before after sums
refilled w zero g j b before after sums some few wide narrow long F first second = absurd (omega arith)
refilled w (suc i) g j b before after sums some few wide narrow long F first second =
    let size : length (set before j b) ≡ w = length-set before j b ∙ long in
    let k = marks-count w i (omega arith) (omega arith) narrow in
    record {
      size = F.size ∙ size;
      carries = λ p l. F.present p (marks-present w i (omega arith) (omega arith) narrow p l);
      zero = λ e l.
          subst (λ n. n ≤ 16 → length (local_marks w (suc i)) ≡ n → lost_in n (local_marks w (suc i)) 0 ≤ 4 → (e : ℕ) → e < lost_in n (local_marks w (suc i)) 0
          → local_sum byte_edition n after 0 e ≡ 0)
          size F.zero narrow (marks-long w i (omega arith) (omega arith) narrow) (omega arith) e (omega arith);
      first = first ∙ ap (λ n. group_sum byte_edition w before 0 (coefficient byte_edition (suc i)) ⊕ group_sum byte_edition n after 0
          (coefficient byte_edition (suc i))) (F.size ∙ size);
      second = second ∙ ap (λ n. group_sum byte_edition w before 0 (second_coefficient byte_edition (suc i) g) ⊕ group_sum byte_edition n after 0
          (second_coefficient byte_edition (suc i) g)) (F.size ∙ size);
    }

-- ---- the last group corrected
pub checks-fit : (m w c : ℕ) → GoodIn byte_limits m w c → c + 2 ≤ m * w
checks-fit m w c good = let k : 1 * w ≤ m * w = mul-le-mul_right w good.some in omega (arith, good.wide)

-- the rows stand at the end of the last group, which is the end of the word
pub corrected : (m w c first second : ℕ) (word part : List ℕ) → GoodIn byte_limits m w c → c ≤ 3 → length word ≡ m * w
    → AddedRows first (take (c + 2) (drop (row_start w c) first_fixes)) (times byte_edition second (raised byte_edition 2 (15 - m)))
    (take (c + 2) (drop (row_start w c) second_fixes))
    (drop (m * w - (c + 2)) word) part
    → take (m * w - (c + 2)) word ++ part ≡ corrected_of m w c first second word
unfolding corrected_of first_fixes second_fixes
corrected m w zero first second word part good few size A = absurd (omega (arith, good.checked))
corrected m w (suc i) first second word part good few size A =
    ext_get_or 0 _ _ (long ∙ sym (combined-length byte_edition (m * w) 2 word _ _)) λ p l.
    let k : p < m * w = subst (λ n. p < n) long l in
    elim (dec_lt p a) [
      | yes h ↦
          get_or-append (take a word) part 0 p (subst (λ n. p < n) (sym front) h) ∙ get_or-take a word p 0 h
          ∙ sym (at p k ∙ ap₂ (λ x y. get_or word p 0 ⊕ (times byte_edition first x ⊕ times byte_edition v y)) (off 0 first_fixes (first-long) p k h)
          (off 1 second_fixes second-long p k h)
          ∙ ap₂ (λ x y. get_or word p 0 ⊕ (x ⊕ y)) (product-zero 8 285 first) (product-zero 8 285 v) ∙ ap (λ x. get_or word p 0 ⊕ x) (⊕-self 0) ∙ ⊕-zero-r
          (get_or word p 0))
      | no h ↦
          (let d : a + (p - a) ≡ p = omega arith in
          let b : p - a < suc i + 2 = omega arith in
          subst (λ q. get_or (take a word ++ part) q 0 ≡ get_or C q 0) d (inside (p - a) b))
    ]
  where
    a : ℕ
    a = m * w - (suc i + 2)

    v : ℕ
    v = times byte_edition second (raised byte_edition 2 (15 - m))

    C : List ℕ
    C = combined byte_edition (m * w) word 2 (pair_at first v) (λ k. lone m w (m - 1) (fix_of (fixes_at k) w (suc i)))

    last_end : (m - 1) * w + w ≡ m * w
    last_end = let s = good.some in let e : suc (m - 1) ≡ m = omega arith in sym (suc-mul (m - 1) w) ∙ ap (λ n. n * w) e

    start : a ≡ (m - 1) * w + (w - (suc i + 2))
    start = let e = last_end in let k = good.wide in omega arith

    front : length (take a word) ≡ a
    front = length-take-le a word (omega arith)

    tail : length (drop a word) ≡ suc i + 2
    tail = let e = last_end in let k = good.wide in omega (arith, length-drop a word)

    long : length (take a word ++ part) ≡ m * w
    long = let t = tail in let e = last_end in let k = good.wide in omega (arith, length-append (take a word) part, front, A.size)

    first-long : length (fix_of first_fixes w (suc i)) ≡ w
    first-long = fix-length w i (omega arith) (let k = good.wide in omega arith) good.narrow first_fixes refl

    second-long : length (fix_of second_fixes w (suc i)) ≡ w
    second-long = fix-length w i (omega arith) (let k = good.wide in omega arith) good.narrow second_fixes refl

    last_less : m - 1 < m
    last_less = let s = good.some in omega arith

    at : (p : ℕ) → p < m * w → get_or C p 0
        ≡ get_or word p 0 ⊕ (times byte_edition first (get_or (lone m w (m - 1) (fix_of first_fixes w (suc i))) p 0) ⊕ times byte_edition v
        (get_or (lone m w (m - 1) (fix_of second_fixes w (suc i))) p 0))
    at p l =
        combined-at byte_edition m w 2 word _ _ p l
        ∙ ap (λ x. get_or word p 0 ⊕ x) (sum-suc 1 _ ∙ ap₂ ◌⊕◌ (sum-suc 0 _ ∙ ap₂ ◌⊕◌ (sum-none _) refl ∙ ⊕-zero-l _) refl)

    off : (k : ℕ) (fixes : List ℕ) → length (fix_of fixes w (suc i)) ≡ w → (p : ℕ) → p < m * w → p < a → get_or (lone m w (m - 1) (fix_of fixes w (suc i))) p 0 ≡ 0
    off k fixes size p l h = elim (dec_lt p ((m - 1) * w)) [
      | yes b ↦ lone-before m w (m - 1) (fix_of fixes w (suc i)) last_less size p b
      | no b ↦
          (let d : (m - 1) * w + (p - (m - 1) * w) ≡ p = omega arith in
          let s = start in
          subst (λ q. get_or (lone m w (m - 1) (fix_of fixes w (suc i))) q 0 ≡ 0) d
          (lone-inside m w (m - 1) (fix_of fixes w (suc i)) last_less size (p - (m - 1) * w) (omega arith) ∙ fix-before fixes w (suc i) (p - (m - 1) * w)
          (omega arith)))
    ]

    on : (fixes : List ℕ) → length (fix_of fixes w (suc i)) ≡ w → (j : ℕ) → j < suc i + 2 → get_or (lone m w (m - 1) (fix_of fixes w (suc i))) (a + j) 0
        ≡ get_or (take (suc i + 2) (drop (row_start w (suc i)) fixes)) j 0
    on fixes size j l =
        let k = good.wide in
        let s = start in
        let d : a + j ≡ (m - 1) * w + (w - (suc i + 2) + j) = omega arith in
        ap (λ q. get_or (lone m w (m - 1) (fix_of fixes w (suc i))) q 0) d
        ∙ lone-inside m w (m - 1) (fix_of fixes w (suc i)) last_less size (w - (suc i + 2) + j) (omega arith) ∙ fix_after fixes w (suc i) j l
        ∙ sym (get_or-take (suc i + 2) (drop (row_start w (suc i)) fixes) j 0 l ∙ get_or-drop (row_start w (suc i)) fixes j 0)

    inside : (j : ℕ) → j < suc i + 2 → get_or (take a word ++ part) (a + j) 0 ≡ get_or C (a + j) 0
    inside j l =
        let t = tail in
        let e = last_end in
        let k = good.wide in
        ap (λ n. get_or (take a word ++ part) (n + j) 0) (sym front) ∙ get_or-append-add (take a word) part j 0
        ∙ A.each j (omega arith)
        ∙ ap₂ (λ x y. x ⊕ y) (get_or-drop a word j 0)
        (ap₂ (λ x y. times byte_edition first x ⊕ times byte_edition v y) (sym (on first_fixes first-long j l)) (sym (on second_fixes second-long j l)))
        ∙ sym (at (a + j) (omega arith))

-- the same of the parts as they are lent
pub corrected-lent : (m w c first second v : ℕ) (word part : List ℕ) → GoodIn byte_limits m w c → c ≤ 3 → length word ≡ m * w
    → v ≡ times byte_edition second (raised byte_edition 2 (15 - m))
    → AddedRows first (take (row_start w c + (c + 2) - row_start w c) (drop (row_start w c) first_fixes)) v
    (take (row_start w c + (c + 2) - row_start w c) (drop (row_start w c) second_fixes))
    (take (length word - (length word - (c + 2))) (drop (length word - (c + 2)) word)) part
    → take (length word - (c + 2)) word ++ (part ++ drop (length word - (length word - (c + 2))) (drop (length word - (c + 2)) word))
    ≡ corrected_of m w c first second word
corrected-lent m w c first second v word part good few size e A =
    let a = length word - (c + 2) in
    let r : row_start w c + (c + 2) - row_start w c ≡ c + 2 = omega arith in
    let d : length (drop a word) ≤ length word - a = omega (arith, length-drop a word) in
    ap (λ x. take a word ++ (part ++ x)) (drop_of_length-le (drop a word) d) ∙ ap (λ x. take a word ++ x) (append-nil part)
    ∙ ap (λ n. take (n - (c + 2)) word ++ part) size
    ∙ corrected m w c first second word part good few size
    (subst (λ n. AddedRows first (take (c + 2) (drop (row_start w c) first_fixes)) (times byte_edition second (raised byte_edition 2 (15 - m)))
    (take (c + 2) (drop (row_start w c) second_fixes)) (drop (n - (c + 2)) word) part) size
    (subst (λ x. AddedRows first (take (c + 2) (drop (row_start w c) first_fixes)) (times byte_edition second (raised byte_edition 2 (15 - m)))
    (take (c + 2) (drop (row_start w c) second_fixes)) x part) (take_all (length word - a) (drop a word) d)
    (subst (λ z. AddedRows first (take (c + 2) (drop (row_start w c) first_fixes)) z (take (c + 2) (drop (row_start w c) second_fixes))
    (take (length word - a) (drop a word)) part) e
    (subst (λ n. AddedRows first (take n (drop (row_start w c) first_fixes)) v (take n (drop (row_start w c) second_fixes))
    (take (length word - a) (drop a word)) part) r A))))

add_sub_cancel : (a b : ℕ) → a + b - a ≡ b
add_sub_cancel a b = omega arith

within : (a b n d : ℕ) → a + b ≤ n → d ≡ n - a → b ≤ d
within a b n d l e = omega arith

-- as many numbers of a row as there are places
pub lent_rows : (m w c : ℕ) (word fixes : List ℕ) → GoodIn byte_limits m w c → c ≤ 3 → length word ≡ m * w → length fixes ≡ 200
    → length (take (row_start w c + (c + 2) - row_start w c) (drop (row_start w c) fixes)) ≡ length
    (take (length word - (length word - (c + 2))) (drop (length word - (c + 2)) word))
lent_rows m w c word fixes good few size long = left ∙ sym right
  where
    row_fits : row_start w c + (c + 2) ≤ 200
    row_fits = let k = good.wide in let h = good.narrow in let o = good.checked in omega arith

    left : length (take (row_start w c + (c + 2) - row_start w c) (drop (row_start w c) fixes)) ≡ c + 2
    left =
        let r : row_start w c + (c + 2) - row_start w c ≡ c + 2 = add_sub_cancel (row_start w c) (c + 2) in
        ap (λ n. length (take n (drop (row_start w c) fixes))) r
        ∙ length-take-le (c + 2) (drop (row_start w c) fixes) (within (row_start w c) (c + 2) (length fixes) (length (drop (row_start w c) fixes))
        (subst (λ n. row_start w c + (c + 2) ≤ n) (sym long) row_fits) (length-drop (row_start w c) fixes))

    right : length (take (length word - (length word - (c + 2))) (drop (length word - (c + 2)) word)) ≡ c + 2
    right =
        let k = checks-fit m w c good in
        let d : length word - (length word - (c + 2)) ≡ c + 2 = omega arith in
        ap (λ n. length (take n (drop (length word - (c + 2)) word))) d
        ∙ length-take-le (c + 2) (drop (length word - (c + 2)) word) (omega (arith, length-drop (length word - (c + 2)) word))

-- ---- the answer
module _ (m w c lent number : ℕ) (accepted : number_refusal_in byte_limits m w c lent number ≡ 0) where
  pub sold-of-number : SoldIn byte_limits m w c
  unfolding number_refusal_in
  sold-of-number = sold-of-refusal m w c (or_else-zero (sale_refusal_in byte_limits m w c) _ accepted).0

-- none of these refusals is 9
pub number-plain : (m w c lent number : ℕ) → Plain (number_refusal_in byte_limits m w c lent number)
unfolding number_refusal_in
number-plain m w c lent number =
    plain-else (sale_refusal_in byte_limits m w c) _ (sale-plain byte_limits m w c)
    (plain-else (word_refusal_in byte_limits m w c lent) _ (word-plain byte_limits m w c lent)
    (plain-refuse 30 (leb (data_count m w c) number) (refl, λ z. omega arith)))

-- number, answer and buffer of a call, by how it goes
module _ (m w c : ℕ) (word : List ℕ) (number b : ℕ) where
  group : ℕ
  group = contradicting_group byte_edition m w c word (replicate (length word) 0)

  by_number : (r : ℕ) → r ≡ edit_refusal_in byte_edition m w c word number
      → (mending_at r group ≡ edit_in byte_edition m w c word number)
      × (unless_refused r (edited_in byte_edition m w c word number b) word ≡ edited_buffer_in byte_edition m w c word number b)
  unfolding edit_in edited_buffer_in group
  by_number r e =
      (ap (λ n. mending_at n group) e, ap (λ n. unless_refused n (edited_in byte_edition m w c word number b) word) e)

  pub edit-refused : (e : Refusal) → refusal_number e ≡ number_refusal_in byte_limits m w c (length word) number
      → (Err e ≡ edit_in byte_edition m w c word number)
      × ((refusal_number e ≡ edit_refusal_in byte_edition m w c word number) × (word ≡ edited_buffer_in byte_edition m w c word number b))
  unfolding edit_refusal_in
  edit-refused e is =
      let f : refusal_number e ≡ edit_refusal_in byte_edition m w c word number = else-first e is _ in
      let B = by_number (refusal_number e) f in (
        sym (mending-refused e group (λ z. (number-plain m w c (length word) number).1 (sym is ∙ z))) ∙ B.0,
        (f, sym (unless-refused (refusal_number e) (edited_in byte_edition m w c word number b) word (refusal-some e)) ∙ B.1),
      )

  module _ (accepted : number_refusal_in byte_limits m w c (length word) number ≡ 0) where
    decided : (v : Bool) → is_codeword byte_edition m w c word ≡ v → refuse 9 (not v) ≡ edit_refusal_in byte_edition m w c word number
    unfolding edit_refusal_in
    decided v e = sym (ap (λ r. r or_else refuse 9 (not (is_codeword byte_edition m w c word))) accepted ∙ ap (λ v. refuse 9 (not v)) e)

    pub edit-contradictory : (g : ℕ) → is_codeword byte_edition m w c word ≡ false → g ≡ contradicting_group byte_edition m w c word (replicate (length word) 0)
        → (Err (Refusal.Contradictory g) ≡ edit_in byte_edition m w c word number)
        × ((9 ≡ edit_refusal_in byte_edition m w c word number) × (word ≡ edited_buffer_in byte_edition m w c word number b))
    unfolding group
    edit-contradictory g e h =
        let B = by_number 9 (decided false e) in
        (ap (λ k. Err (Refusal.Contradictory k)) h ∙ B.0, (decided false e, B.1))

    pub edit-done : (end : List ℕ) → is_codeword byte_edition m w c word ≡ true → end ≡ edited_in byte_edition m w c word number b
        → (Ok tt ≡ edit_in byte_edition m w c word number)
        × ((0 ≡ edit_refusal_in byte_edition m w c word number) × (end ≡ edited_buffer_in byte_edition m w c word number b))
    edit-done end e h =
        let B = by_number 0 (decided true e) in
        (B.0, (decided true e, h ∙ B.1))
