-- The laws of data places and check places.
use Rattle.std.specs.Prelude.{◌≡◌, true, false, ◌||◌, ◌&&◌, eqb, leb, length}
use Rattle.std.proofs.Math.Path.{refl, sym, ap, ap₂}
use Rattle.std.proofs.Common.{◌∙◌, le_of_eq, add-zero, zero-add, mod-eq_of_lt, drop_of_length-le, le-leb, eq-eqb, ne_eqb}
use Rattle.std.proofs.Math.Bool.{or-false}
use mathlib.Core.List.{List, [], ◌∷◌, ◌++◌, append-nil}
use Prim.Native.Nat.{ℕ, zero, suc, ◌+◌, ◌-◌, ◌*◌, ◌/◌, ◌%◌, ◌≤◌, ◌<◌}
use Rattle.std.proofs.Math.Nat.{div-zero, zero-mul, suc-mul, mul_comm, div-eq_of_lt, mul-add-mod_self_right, mul-add-div_right}
use Rattle.std.proofs.Math.Decide.{dec_le}
use native.Mathlib.Omega.{arith}
use Rattle.std.proofs.Math.ListN.{get_or, length-map}
use Rattle.std.proofs.lemmas.Bool.{lt-leb}
use Rattle.code.specs.RefusalsLaws.{or_else-zero}
use Rattle.code.specs.Limits.{Limits, place_count, data_count, GoodIn, sale_refusal_in, word_refusal_in}
use Rattle.code.specs.LimitsLaws.{data-and-checks, good-of-word, word-of-good, buffers-of-good}
use Rattle.code_services.specs.Places.{is_check, others_from, data_places, bytes_at, extract_of, placed_of, mark, check_marks, extracted_data_in, extract_over, placed_over, symbols_at}
use Rattle.code_services.specs.Places.{marks_from, check_marks_refusal_in}
use Rattle.code_services.specs.PlacesRuns.{with_checks}
use Rattle.code_engine.specs.GroupsLaws.{groups-whole}
use Rattle.counting.specs.Count.{total_below, count_below, one}
use Rattle.counting.specs.CountLaws.{total-append, count-ext}
use Rattle.code_services.specs.PlacesCountLaws.{count-from}
use Rattle.code_services.specs.PlacesFromLaws as FromLaws

-- place j of group g
pub check-at : (m w c g j : ℕ) → j < w → is_check m w c (g * w + j) ≡ (leb w (j + c) || (eqb (g + 1) m && leb w (j + (c + 2))))
unfolding is_check
check-at m w c g j h =
    let e : (g * w + j) % w ≡ j = mul-add-mod_self_right g w j ∙ mod-eq_of_lt h in
    let d : (g * w + j) / w ≡ g = mul-add-div_right (omega arith) g j ∙ ap (λ x. g + x) (div-eq_of_lt h) ∙ add-zero g in
    rw (e, d)

-- in a group that is not the last
pub check-inner : (m w c g j : ℕ) → g + 1 < m → j < w → is_check m w c (g * w + j) ≡ leb w (j + c)
check-inner m w c g j l h = check-at m w c g j h ∙ rw (ne_eqb (g + 1) m (omega arith)) (or-false (leb w (j + c)))

-- in the last group
pub check-last : (m w c g j : ℕ) → g + 1 ≡ m → j < w → is_check m w c (g * w + j) ≡ leb w (j + (c + 2))
check-last m w c g j e h = check-at m w c g j h ∙ rw (eq-eqb (g + 1) m e) (go (dec_le w (j + c)))
  where
    go : Dec (w ≤ j + c) → (leb w (j + c) || leb w (j + (c + 2))) ≡ leb w (j + (c + 2))
    go (yes a) = let b : w ≤ j + (c + 2) = omega arith in rw (le-leb w (j + c) a) (sym (le-leb w (j + (c + 2)) b))
    go (no a) = let b : j + c < w = omega arith in rw (lt-leb w (j + c) b)

module _ {L : Limits} {m w c : ℕ} (good : GoodIn L m w c) where
  -- "the last c places of every group"
  pub checks-inner : (g : ℕ) → g + 1 < m → count_below w (λ j. is_check m w c (g * w + j)) ≡ c
  checks-inner g l =
      count-ext w (λ j. is_check m w c (g * w + j)) (λ j. leb w (j + c)) (λ j h. check-inner m w c g j l h)
      ∙ count-from w c w ∙ omega arith

  -- "and, in the last group, also the two before them"
  pub checks-last : (g : ℕ) → g + 1 ≡ m → count_below w (λ j. is_check m w c (g * w + j)) ≡ c + 2
  checks-last g e =
      count-ext w (λ j. is_check m w c (g * w + j)) (λ j. leb w (j + (c + 2))) (λ j h. check-last m w c g j e h)
      ∙ count-from w (c + 2) w ∙ omega arith

  pub checks-before : (g : ℕ) → g < m → count_below (g * w) (is_check m w c) ≡ g * c
  unfolding total_below
  checks-before zero l = rw (zero-mul w, zero-mul c)
  checks-before (suc g) l =
      rw (suc-mul g w, suc-mul g c)
      (total-append (g * w) w (λ p. one (is_check m w c p)) ∙ ap₂ ◌+◌ (checks-before g (omega arith)) (checks-inner g (omega arith)))

  pub checks-all : count_below (place_count m w) (is_check m w c) ≡ m * c + 2
  checks-all =
      let g = m - 1 in
      let e : m ≡ suc g = omega arith in
      ap (λ x. count_below (x * w) (is_check m w c)) e ∙ ap (λ x. count_below x (is_check m w c)) (suc-mul g w)
      ∙ total-append (g * w) w (λ p. one (is_check m w c p)) ∙ ap₂ ◌+◌ (checks-before g (omega arith)) (checks-last g (omega arith))
      ∙ omega (arith, ap (λ x. x * c) e, suc-mul g c)

  pub data-length : length (data_places m w c) ≡ data_count m w c
  unfolding data_places total_below
  data-length =
      let n = place_count m w in
      omega (
        arith,
        FromLaws.others-length (is_check m w c) 0 n,
        ap (λ x. count_below x (is_check m w c)) (zero-add n),
        checks-all,
        data-and-checks good,
        mul_comm
            m c,
      )

  pub extract-over-length : {A : Type 0} (z : A) (word : List A) → length (extract_over z m w c word) ≡ data_count m w c
  unfolding extract_over symbols_at
  extract-over-length z word = length-map (data_places m w c) (λ p. get_or word p z) ∙ data-length

  pub extract-length : (word : List ℕ) → length (extract_of m w c word) ≡ data_count m w c
  extract-length word = extract-over-length 0 word

  pub extract-placed : (bytes : List ℕ) → length bytes ≡ data_count m w c → extract_of m w c (placed_of m w c bytes) ≡ bytes
  unfolding extract_over placed_over data_places symbols_at
  extract-placed bytes e = FromLaws.others-spread (is_check m w c) 0 (place_count m w) [] bytes refl (e ∙ sym data-length)

module _ (m w c : ℕ) where
  pub placed-length : (bytes : List ℕ) → length (placed_of m w c bytes) ≡ place_count m w
  unfolding placed_over
  placed-length bytes = FromLaws.spread-length (is_check m w c) 0 (place_count m w) bytes

  -- numbers below b stay below b
  pub placed_below : (b : ℕ) → 0 < b → (bytes : List ℕ) → ((i : ℕ) → get_or bytes i 0 < b) → (p : ℕ) → get_or (placed_of m w c bytes) p 0 < b
  unfolding placed_over
  placed_below b l bytes h p = FromLaws.spread-below (is_check m w c) b l 0 (place_count m w) bytes h p

  pub extract-below : (b : ℕ) → 0 < b → (word : List ℕ) → ((p : ℕ) → get_or word p 0 < b) → (i : ℕ) → get_or (extract_of m w c word) i 0 < b
  unfolding extract_over
  extract-below b l word h i = FromLaws.bytes_below b l word h (data_places m w c) i

  pub marks-length : length (check_marks m w c) ≡ place_count m w
  unfolding check_marks
  marks-length = FromLaws.marks-length (is_check m w c) 0 (place_count m w)

  pub marks-at : (p : ℕ) → p < place_count m w → get_or (check_marks m w c) p 0 ≡ mark (is_check m w c p)
  unfolding check_marks
  marks-at p l = FromLaws.marks-from (is_check m w c) 0 (place_count m w) p l ∙ ap (λ q. mark (is_check m w c q)) (zero-add p)

  pub marks-small : (p : ℕ) → get_or (check_marks m w c) p 0 ≤ 1
  unfolding check_marks
  marks-small p = FromLaws.marks-small (is_check m w c) 0 (place_count m w) p

  -- words that agree at the data places have the same data
  pub extract-agree : (x y : List ℕ) → ((p : ℕ) → p < place_count m w → is_check m w c p ≡ false → get_or x p 0 ≡ get_or y p 0) → extract_of m w c x
      ≡ extract_of m w c y
  unfolding extract_over data_places symbols_at
  extract-agree x y h =
      FromLaws.others-ext (is_check m w c) (λ p. get_or x p 0) (λ p. get_or y p 0) 0 (place_count m w) (λ p a b e. h p (omega arith) e)

  -- and those that have the same data agree there
  pub agree-extract : (x y : List ℕ) → extract_of m w c x ≡ extract_of m w c y → (p : ℕ) → p < place_count m w → is_check m w c p ≡ false → get_or x p 0 ≡ get_or y p 0
  unfolding extract_over data_places symbols_at
  agree-extract x y h p l e =
      FromLaws.ext-others (is_check m w c) (λ p. get_or x p 0) (λ p. get_or y p 0) 0 (place_count m w) h p (omega arith) (omega arith) e

-- a call of Check marks that is not refused has a good shape and marks of n
pub good-of-check-marks : {L : Limits} (m w c n : ℕ) → check_marks_refusal_in L m w c n ≡ 0 → GoodIn L m w c × (n ≡ place_count m w)
unfolding check_marks_refusal_in
good-of-check-marks {L} m w c n e = good-of-word m w c n (or_else-zero (sale_refusal_in L m w c) (word_refusal_in L m w c n) e).1

-- marks of m·w places with the checks of all their groups lost
pub checks-whole : (m w c : ℕ) (marks : List ℕ) → 0 < w → length marks ≡ m * w → with_checks w c marks ≡ check_marks m w c
unfolding with_checks
checks-whole m w c marks pos size =
    rw (groups-whole m w pos size) (ap (λ t. check_marks m w c ++ t) (drop_of_length-le marks (le_of_eq size)) ∙ append-nil (check_marks m w c))

-- and of a width of 0
pub no-groups : (w c : ℕ) (marks : List ℕ) → w ≡ 0 → with_checks w c marks ≡ marks
unfolding with_checks check_marks marks_from
no-groups w c marks e =
    rw (ap (λ v. length marks / v) e ∙ div-zero (length marks), zero-mul w) refl

-- "m 2, w 3, c 1, data 1, 1: word 1, 1, 0, 78, 206, 128."
pub extract-2-3-1 : extract_of 2 3 1 (1 ∷ 1 ∷ 0 ∷ 78 ∷ 206 ∷ 128 ∷ []) ≡ 1 ∷ 1 ∷ []
unfolding extract_over data_places others_from is_check symbols_at
extract-2-3-1 = refl

-- "m 1, w 4, c 1, data 1: word 1, 79, 147, 221."
pub extract-1-4-1 : extract_of 1 4 1 (1 ∷ 79 ∷ 147 ∷ 221 ∷ []) ≡ 1 ∷ []
unfolding extract_over data_places others_from is_check symbols_at
extract-1-4-1 = refl
