-- Why the steps of an edit end in the word that encoding would give: the word is a codeword again, and carries the changed data.
use Rattle.std.specs.Prelude.{◌≡◌, List, length, set}
use Rattle.std.proofs.Math.Path.{refl, sym, ap, ap₂, subst}
use Rattle.std.proofs.Common.{◌∙◌, div-add-mod', mod-lt, div-lt_iff_lt-mul, lit<, get_or-set_same}
use Rattle.std.proofs.Math.Bool.{false}
use Prim.Native.Nat.{ℕ, zero, suc, ◌+◌, ◌-◌, ◌*◌, ◌/◌, ◌%◌, ◌<◌, ◌≤◌}
use Rattle.std.proofs.Math.Nat.{suc-mul, mul-le-mul_right}
use native.Mathlib.Omega.{arith}
use Rattle.std.proofs.Math.Decide.{ℕ_discrete, dec_lt}
use borrow.Author.Tests.{leb-false}
use Rattle.std.proofs.Math.Arith.{digits_div}
use Rattle.std.proofs.Math.ListN.{get_or}
use Rattle.std.proofs.Math.Seq.{get_or-set_other}
use Rattle.binary_field.specs.Xor.{◌⊕◌}
use Rattle.binary_field.specs.XorLaws.{⊕-zero-l, ⊕-zero-r, ⊕-self, ⊕-lt}
use Rattle.binary_field.specs.ProductLaws.{product-zero, product-one, product_lt}
use Rattle.binary_field.specs.Sum.{sum_below}
use Rattle.binary_field.specs.SumLaws.{sum-none, sum-suc, sum-ext, sum-add, sum-single, sum_lt, sum-zero}
use Rattle.shape.specs.Shapes.{byte_limits}
use Rattle.code.specs.Limits.{data_count, GoodIn}
use Rattle.code.specs.Pair.{pair_at}
use Rattle.code_services.specs.Places.{is_check, extract_of}
use Rattle.code_services.specs.PlacesLaws.{check-inner, check-last, extract-agree}
use Rattle.code.specs.Edition.{times, raised}
use Rattle.code.specs.Word.{group_sum, local_sum, word_sum, coefficient, second_coefficient, Codeword}
use Rattle.code.specs.WordLaws.{equations, is-codeword}
use Rattle.code.specs.Combined.{combined}
use Rattle.code.specs.CombinedLaws.{combined-at, combined-group, combined-word, combined-symbols}
use Rattle.code.specs.Lone.{lone}
use Rattle.code.specs.LoneLaws.{lone-inside, lone-before, lone-own, lone-zero, lone-word}
use Rattle.code.specs.Stretch.{stretch, with_stretch}
use Rattle.code.specs.StretchLaws.{stretch-at, stretch-length, stretch-sum, stretch-with, with-length, with-inside, with-before, with-after}
use Rattle.byte_edition.specs.Edition.{byte_edition}
use Rattle.byte_edition.specs.EditionLaws.{bytes-sound}
use Rattle.syndrome.specs.declared.Sums.{Sums}
use Rattle.edit.specs.Edit.{place_of, edited_in}
use Rattle.edit.specs.PlacesLaws.{group-less, place-less, place_is, extract-set}
use Rattle.edit.specs.Laws.{edited-encoded}
use Rattle.edit.specs.Rows.{first_fixes, second_fixes, fix_of, fixes_at}
use Rattle.edit.specs.RowsLaws.{fix-length, fix-before, first-local, second-local, first-first, first-second, second-first, second-second}
use Rattle.edit.specs.Steps.{Refilled, corrected_of}

-- a sum with one term changed
sum-change : (n g : ℕ) (f h : ℕ → ℕ) → g < n → ((i : ℕ) → i < n → ¬ (i ≡ g) → f i ≡ h i) → sum_below n f ⊕ sum_below n h ≡ f g ⊕ h g
sum-change n g f h l same =
    sym (sum-add n f h) ∙ sum-single n g _ l (λ i k d. ap (λ x. x ⊕ h i) (same i k d) ∙ ⊕-self (h i))

sum-two : (f : ℕ → ℕ) → sum_below 2 f ≡ f 0 ⊕ f 1
sum-two f = sum-suc 1 f ∙ ap (λ s. s ⊕ f 1) (sum-suc 0 f ∙ ap (λ s. s ⊕ f 0) (sum-none f) ∙ ⊕-zero-l (f 0))

group-lt : (w g : ℕ) (x : List ℕ) (h : ℕ → ℕ) → group_sum byte_edition w x g h < 256
unfolding group_sum
group-lt w g x h = sum_lt 8 w _ (λ j _. product_lt 8 285 (get_or x (g * w + j) 0) (h j))

module _ (m w i : ℕ) (good : GoodIn byte_limits m w (suc i)) (few : suc i ≤ 3) (word : List ℕ) (C : Codeword byte_edition m w (suc i) word) (number b : ℕ)
    (below : number < data_count m w (suc i)) (byte : b < 256) (after : List ℕ) (s : Sums)
    (R : Refilled w (suc i) (number / (w - suc i)) (number % (w - suc i)) b (stretch w (number / (w - suc i)) word) after s)
    (each : (p : ℕ) → get_or (with_stretch w (number / (w - suc i)) word after) p 0 < 256) where
  g : ℕ
  g = number / (w - suc i)

  j : ℕ
  j = number % (w - suc i)

  x : List ℕ
  x = with_stretch w g word after

  v : ℕ
  v = times byte_edition s.second (raised byte_edition 2 (15 - m))

  U : ℕ → ℕ
  U = pair_at s.first v

  H : ℕ → List ℕ
  H k = lone m w (m - 1) (fix_of (fixes_at k) w (suc i))

  z : List ℕ
  z = combined byte_edition (m * w) x 2 U H

  wide : 0 < w
  wide = let k = good.wide in omega arith

  room-i : i + 3 ≤ w
  room-i = let k = good.wide in omega arith

  few-i : i < 3
  few-i = omega arith

  l : g < m
  unfolding g
  l = group-less good number below

  fits : suc g * w ≤ length word
  fits = subst (λ n. suc g * w ≤ n) (sym C.symbols.size) (mul-le-mul_right w l)

  last_less : m - 1 < m
  last_less = let k = good.some in omega arith

  first-long : length (fix_of first_fixes w (suc i)) ≡ w
  unfolding first_fixes
  first-long = fix-length w i few-i room-i good.narrow first_fixes refl

  second-long : length (fix_of second_fixes w (suc i)) ≡ w
  unfolding second_fixes
  second-long = fix-length w i few-i room-i good.narrow second_fixes refl

  -- ---- the word with its group refilled
  x-size : length x ≡ m * w
  unfolding x g
  x-size = with-length w g word fits after R.size ∙ C.symbols.size

  x-own : (h : ℕ → ℕ) → group_sum byte_edition w x g h ≡ group_sum byte_edition w after 0 h
  unfolding x g
  x-own h = sym (stretch-sum byte_edition w g x h) ∙ ap (λ y. group_sum byte_edition w y 0 h) (stretch-with w g word after fits R.size)

  x-at : (k : ℕ) → ¬ (k ≡ g) → (q : ℕ) → q < w → get_or x (k * w + q) 0 ≡ get_or word (k * w + q) 0
  unfolding x g
  x-at k n q h = elim (dec_lt k g) [
    | yes d ↦ with-before w g word fits after R.size (k * w + q) (let y : suc k * w ≤ g * w = mul-le-mul_right w d in let e = suc-mul k w in omega arith)
    | no d ↦
        (let a : suc g ≤ k = omega arith in
        with-after w g word fits after R.size (k * w + q) (let y : suc g * w ≤ k * w = mul-le-mul_right w a in omega arith))
  ]

  x-other : (k : ℕ) → ¬ (k ≡ g) → (h : ℕ → ℕ) → group_sum byte_edition w x k h ≡ group_sum byte_edition w word k h
  unfolding group_sum
  x-other k n h = sum-ext w _ _ (λ q d. ap (λ a. times byte_edition a (h q)) (x-at k n q d))

  x-local : (k : ℕ) → k < m → (e : ℕ) → e < suc i → local_sum byte_edition w x k e ≡ 0
  x-local k d e h = elim (ℕ_discrete k g) [
    | yes q ↦ subst (λ a. local_sum byte_edition w x a e ≡ 0) (sym q) (x-own _ ∙ R.zero e h)
    | no q ↦ x-other k q _ ∙ (equations byte_edition m w (suc i) word C.zero).locals k d e h
  ]

  -- a sum across that was zero comes to what the group changes
  x-across : (h : ℕ → ℕ → ℕ) → word_sum byte_edition m w word h ≡ 0
      → word_sum byte_edition m w x h ≡ group_sum byte_edition w (stretch w g word) 0 (h g) ⊕ group_sum byte_edition w after 0 (h g)
  unfolding word_sum
  x-across h e =
      sym (⊕-zero-l _) ∙ ap (λ a. a ⊕ sum_below m (λ k. group_sum byte_edition w x k (h k))) (sym e)
      ∙ sum-change m g (λ k. group_sum byte_edition w word k (h k)) (λ k. group_sum byte_edition w x k (h k)) l (λ k _ n. sym (x-other k n (h k)))
      ∙ ap₂ ◌⊕◌ (sym (stretch-sum byte_edition w g word (h g))) (x-own (h g))

  x-first : word_sum byte_edition m w x (λ _. coefficient byte_edition (suc i)) ≡ s.first
  unfolding g
  x-first = x-across _ (equations byte_edition m w (suc i) word C.zero).first ∙ sym R.first

  x-second : word_sum byte_edition m w x (second_coefficient byte_edition (suc i)) ≡ s.second
  unfolding g
  x-second = x-across _ (equations byte_edition m w (suc i) word C.zero).second ∙ sym R.second

  -- ---- and its last group corrected
  first-lt : s.first < 256
  first-lt = subst (λ n. n < 256) (sym R.first) (⊕-lt 8 _ _ (group-lt w 0 _ _) (group-lt w 0 _ _))

  second_lt : s.second < 256
  second_lt = subst (λ n. n < 256) (sym R.second) (⊕-lt 8 _ _ (group-lt w 0 _ _) (group-lt w 0 _ _))

  U-lt : (k : ℕ) → U k < 256
  unfolding U v
  U-lt zero = first-lt
  U-lt (suc k) = product_lt 8 285 s.second (raised byte_edition 2 (15 - m))

  H-local : (a : ℕ) → a < 2 → (k : ℕ) → k < m → (e : ℕ) → e < suc i → local_sum byte_edition w (H a) k e ≡ 0
  unfolding H
  H-local a la k d e h = elim (ℕ_discrete k (m - 1)) [
    | yes q ↦ subst (λ n. local_sum byte_edition w (H a) n e ≡ 0) (sym q) (own a la)
    | no q ↦ other a la q
  ]
    where
      own : (a : ℕ) → a < 2 → local_sum byte_edition w (H a) (m - 1) e ≡ 0
      own zero la = lone-own m w (m - 1) (fix_of first_fixes w (suc i)) last_less first-long byte_edition _ ∙ first-local w i few-i room-i good.narrow e h
      own (suc a) la = lone-own m w (m - 1) (fix_of second_fixes w (suc i)) last_less second-long byte_edition _ ∙ second-local w i few-i room-i good.narrow e h

      other : (a : ℕ) → a < 2 → ¬ (k ≡ m - 1) → local_sum byte_edition w (H a) k e ≡ 0
      other zero la q = lone-zero m w (m - 1) (fix_of first_fixes w (suc i)) last_less first-long byte_edition k q _
      other (suc a) la q = lone-zero m w (m - 1) (fix_of second_fixes w (suc i)) last_less second-long byte_edition k q _

  z-first : word_sum byte_edition m w z (λ _. coefficient byte_edition (suc i)) ≡ 0
  unfolding z U v H
  z-first =
      combined-word byte_edition m w 2 x U H (λ _. coefficient byte_edition (suc i))
      ∙ ap₂ ◌⊕◌ x-first
      (sum-two _
      ∙ ap₂ ◌⊕◌
      (ap (times byte_edition s.first) (lone-word m w (m - 1) (fix_of first_fixes w (suc i)) last_less first-long byte_edition _ ∙ first-first w i few-i room-i
      good.narrow)
      ∙ product-one 8 285 (lit< tt) s.first first-lt)
      (ap (times byte_edition v) (lone-word m w (m - 1) (fix_of second_fixes w (suc i)) last_less second-long byte_edition _
      ∙ second-first w i few-i room-i good.narrow)
      ∙ product-zero 8 285 v)
      ∙ ⊕-zero-r s.first)
      ∙ ⊕-self s.first

  z-second : word_sum byte_edition m w z (second_coefficient byte_edition (suc i)) ≡ 0
  unfolding z U v H
  z-second =
      combined-word byte_edition m w 2 x U H (second_coefficient byte_edition (suc i))
      ∙ ap₂ ◌⊕◌ x-second
      (sum-two _
      ∙ ap₂ ◌⊕◌
      (ap (times byte_edition s.first) (lone-word m w (m - 1) (fix_of first_fixes w (suc i)) last_less first-long byte_edition _ ∙ first-second w i few-i room-i
      good.narrow (m - 1))
      ∙ product-zero 8 285 s.first)
      (ap (times byte_edition v) (lone-word m w (m - 1) (fix_of second_fixes w (suc i)) last_less second-long byte_edition _)
      ∙ second-second w i few-i room-i good.narrow m s.second good.some good.few second_lt)
      ∙ ⊕-zero-l s.second)
      ∙ ⊕-self s.second

  z-codeword : Codeword byte_edition m w (suc i) z
  unfolding z x g
  z-codeword = record {
    symbols = combined-symbols byte_edition m w 2 x U H (record { size = x-size; each = each }) U-lt;
    zero = is-codeword byte_edition m w (suc i) z (record {
      locals = λ k d e h.
          combined-group byte_edition m w 2 x U H k _ d
          ∙ ap₂ ◌⊕◌ (x-local k d e h) (sum-zero 2 _ (λ a la. ap (times byte_edition (U a)) (H-local a la k d e h) ∙ product-zero 8 285 (U a))) ∙ ⊕-self 0;
      first = z-first;
      second = z-second;
    });
  }

  -- ---- the data it carries
  H-data : (a : ℕ) → a < 2 → (k q : ℕ) → k < m → q < w → is_check m w (suc i) (k * w + q) ≡ false → get_or (H a) (k * w + q) 0 ≡ 0
  unfolding H
  H-data a la k q d h e = elim (ℕ_discrete k (m - 1)) [
    | yes n ↦
        (let f : q < w - (suc i + 2) =
        (let y = leb-false w (q + (suc i + 2)) (sym (check-last m w (suc i) k q (omega arith) h) ∙ e) in omega arith) in
        subst (λ t. get_or (H a) (t * w + q) 0 ≡ 0) (sym n) (own a la f))
    | no n ↦ before a la (let y : suc k * w ≤ (m - 1) * w = mul-le-mul_right w (omega arith) in let t = suc-mul k w in omega arith)
  ]
    where
      own : (a : ℕ) → a < 2 → q < w - (suc i + 2) → get_or (H a) ((m - 1) * w + q) 0 ≡ 0
      own zero la f = lone-inside m w (m - 1) (fix_of first_fixes w (suc i)) last_less first-long q h ∙ fix-before first_fixes w (suc i) q f
      own (suc a) la f = lone-inside m w (m - 1) (fix_of second_fixes w (suc i)) last_less second-long q h ∙ fix-before second_fixes w (suc i) q f

      before : (a : ℕ) → a < 2 → k * w + q < (m - 1) * w → get_or (H a) (k * w + q) 0 ≡ 0
      before zero la f = lone-before m w (m - 1) (fix_of first_fixes w (suc i)) last_less first-long (k * w + q) f
      before (suc a) la f = lone-before m w (m - 1) (fix_of second_fixes w (suc i)) last_less second-long (k * w + q) f

  place : place_of m w (suc i) number ≡ g * w + j
  unfolding g j
  place = place_is good number below

  x-data : (k q : ℕ) → k < m → q < w → is_check m w (suc i) (k * w + q) ≡ false → get_or x (k * w + q) 0 ≡ get_or (set word (g * w + j) b) (k * w + q) 0
  unfolding x g j
  x-data k q d h e = elim (ℕ_discrete k g) [
    | yes n ↦ subst (λ t. get_or x (t * w + q) 0 ≡ get_or (set word (g * w + j) b) (t * w + q) 0) (sym n)
        (with-inside w g word fits after R.size q h ∙ R.carries q (data-low k q d h e)
        ∙ elim (ℕ_discrete q j) [
          | yes y ↦
              subst (λ t. get_or (set (stretch w g word) j b) t 0 ≡ get_or (set word (g * w + j) b) (g * w + t) 0) (sym y)
              (get_or-set_same (stretch w g word) j b 0 (subst (λ n. j < n) (sym (stretch-length w g word fits)) j-less)
              ∙ sym (get_or-set_same word (g * w + j) b 0 (let t = suc-mul g w in let u = fits in let r = j-less in omega arith)))
          | no y ↦
              get_or-set_other (stretch w g word) j q b 0 y ∙ stretch-at w g word q h
              ∙ sym (get_or-set_other word (g * w + j) (g * w + q) b 0 (λ f. y (omega arith)))
        ])
    | no n ↦ x-at k n q h ∙ sym (get_or-set_other word (g * w + j) (k * w + q) b 0 (λ f. n (apart f)))
  ]
    where
      j-less : j < w
      j-less = let y = place-less good number below in omega arith

      -- places of different groups are different
      apart : k * w + q ≡ g * w + j → k ≡ g
      apart f = sym (digits_div k h) ∙ ap (λ t. t / w) f ∙ digits_div g j-less

      data-low : (k q : ℕ) → k < m → q < w → is_check m w (suc i) (k * w + q) ≡ false → q + suc i < w
      data-low k q d h e = elim (dec_lt (k + 1) m) [
        | yes y ↦ (let t = leb-false w (q + suc i) (sym (check-inner m w (suc i) k q y h) ∙ e) in omega arith)
        | no y ↦ (let t = leb-false w (q + (suc i + 2)) (sym (check-last m w (suc i) k q (omega arith) h) ∙ e) in omega arith)
      ]

  z-data : extract_of m w (suc i) z ≡ set (extract_of m w (suc i) word) number b
  unfolding z
  z-data =
      extract-agree m w (suc i) z (set word (place_of m w (suc i) number) b) (λ p d e.
      subst (λ t. get_or z t 0 ≡ get_or (set word (place_of m w (suc i) number) b) t 0) (div-add-mod' p w)
      (at (p / w) (p % w) ((div-lt_iff_lt-mul wide).1 d) (mod-lt p wide) (subst (λ t. t < m * w) (sym (div-add-mod' p w)) d)
      (ap (is_check m w (suc i)) (div-add-mod' p w) ∙ e)))
      ∙ extract-set good number below word b C.symbols.size
    where
      at : (k q : ℕ) → k < m → q < w → k * w + q < m * w → is_check m w (suc i) (k * w + q) ≡ false
          → get_or z (k * w + q) 0 ≡ get_or (set word (place_of m w (suc i) number) b) (k * w + q) 0
      at k q d h n e =
          combined-at byte_edition m w 2 x U H (k * w + q) n
          ∙ ap₂ ◌⊕◌ (x-data k q d h e) (sum-zero 2 _ (λ a la. ap (times byte_edition (U a)) (H-data a la k q d h e) ∙ product-zero 8 285 (U a)))
          ∙ ⊕-zero-r _ ∙ ap (λ t. get_or (set word t b) (k * w + q) 0) (sym place)

  changed-suc : corrected_of m w (suc i) s.first s.second (with_stretch w (number / (w - suc i)) word after)
      ≡ edited_in byte_edition m w (suc i) word number b
  unfolding corrected_of z x g U v H
  changed-suc = (edited-encoded bytes-sound good word C number b below byte).only z z-codeword z-data

pub changed : (m w c : ℕ) → GoodIn byte_limits m w c → c ≤ 3 → (word : List ℕ) → Codeword byte_edition m w c word → (number b : ℕ) → number < data_count m w c
    → b < 256
    → (after : List ℕ) (s : Sums)
    → Refilled w c (number / (w - c)) (number % (w - c)) b (stretch w (number / (w - c)) word) after s
    → ((p : ℕ) → get_or (with_stretch w (number / (w - c)) word after) p 0 < 256)
    → corrected_of m w c s.first s.second (with_stretch w (number / (w - c)) word after) ≡ edited_in byte_edition m w c word number b
changed m w zero good few word C number b below byte after s R each = absurd (omega (arith, good.checked))
changed m w (suc i) good few word C number b below byte after s R each = changed-suc m w i good few word C number b below byte after s R each
