-- The place of a data number, and the data of a word with one data place changed.
use Rattle.std.specs.Prelude.{◌≡◌, Bool}
use Rattle.std.proofs.Math.Path.{refl, sym, ap, ap₂}
use Rattle.std.proofs.Common.{◌∙◌, subst, add-zero, add-suc, suc-add, zero-add, not-suc-le-zero, mod-lt, div-lt_iff_lt-mul, suc-mul, mul-le-mul_right, get_or-set_same}
use Rattle.std.proofs.Math.Bool.{true, false}
use mathlib.Core.List.{List, ◌∷◌, ◌++◌, map}
use Prim.Native.Nat.{ℕ, zero, suc, ◌+◌, ◌-◌, ◌*◌, ◌/◌, ◌%◌, ◌≤◌, ◌<◌}
use Rattle.std.proofs.Math.Nat.{le_of_suc-le-suc, div-add-mod', mul-le-mul_left, mul-sub}
use native.Mathlib.Omega.{arith}
use Rattle.std.proofs.Math.Decide.{dec_lt}
use Rattle.std.proofs.lemmas.Bool.{lt-leb}
use Rattle.std.proofs.Math.ListN.{length, get_or, set}
use Rattle.std.proofs.Math.Seq.{get_or-set_other, get_or-append_seam}
use Rattle.counting.specs.Count.{count_below, one}
use Rattle.counting.specs.CountLaws.{total-append, total-zero}
use Rattle.code.specs.Limits.{Limits, data_count, GoodIn}
use Rattle.code_services.specs.Places.{is_check, others_from, data_places, extract_of, extract_over, symbols_at}
use Rattle.code_services.specs.PlacesFromLaws.{others-ext, others-length}
use Rattle.code_services.specs.PlacesLaws.{check-inner, check-last, checks-before, data-length}
use Rattle.edit.specs.Edit.{place_of}

module _ (check : ℕ → Bool) where
  -- each is at least p
  others-from : (p r i : ℕ) → i < length (others_from check p r) → p ≤ get_or (others_from check p r) i 0
  unfolding others_from
  others-from p zero i l = absurd (not-suc-le-zero l)
  others-from p (suc r) i l = go (check p) refl i l (others-from (suc p) r)
    where
      go : (b : Bool) → check p ≡ b → (i : ℕ) → i < length (others_from check p (suc r))
          → ((i : ℕ) → i < length (others_from check (suc p) r) → suc p ≤ get_or (others_from check (suc p) r) i 0) → p ≤ get_or (others_from check p (suc r)) i 0
      go true e i l h = rw e (let k = h i (rw e at l) in omega arith)
      go false e zero l h = rw e (omega arith)
      go false e (suc i) l h = rw e (let k = h i (le_of_suc-le-suc (rw e at l)) in omega arith)

  -- a word with one of these places changed has the same symbols at them, with one changed
  pub others-set : (word : List ℕ) (b p r i : ℕ) → p + r ≤ length word → i < length (others_from check p r)
      → map (λ q. get_or (set word (get_or (others_from check p r) i 0) b) q 0) (others_from check p r) ≡ set (map (λ q. get_or word q 0) (others_from check p r)) i b
  unfolding others_from
  others-set word b p zero i fits l = absurd (not-suc-le-zero l)
  others-set word b p (suc r) i fits l = go (check p) refl i l (λ i. others-set word b (suc p) r i (omega arith))
    where
      go : (v : Bool) → check p ≡ v → (i : ℕ) → i < length (others_from check p (suc r))
          → ((i : ℕ) → i < length (others_from check (suc p) r)
          → map (λ q. get_or (set word (get_or (others_from check (suc p) r) i 0) b) q 0) (others_from check (suc p) r)
          ≡ set (map (λ q. get_or word q 0) (others_from check (suc p) r)) i b)
          → map (λ q. get_or (set word (get_or (others_from check p (suc r)) i 0) b) q 0) (others_from check p (suc r))
          ≡ set (map (λ q. get_or word q 0) (others_from check p (suc r))) i b
      go true e i l h = rw e (h i (rw e at l))
      go false e zero l h =
          rw e (ap₂ ◌∷◌ (get_or-set_same word p b 0 (omega arith))
          (others-ext check (λ q. get_or (set word p b) q 0) (λ q. get_or word q 0) (suc p) r (λ q a _ _. get_or-set_other word p q b 0 (omega arith))))
      go false e (suc i) l h =
          let k : i < length (others_from check (suc p) r) = le_of_suc-le-suc (rw e at l) in
          let q = others-from (suc p) r i k in
          rw e (ap₂ ◌∷◌ (get_or-set_other word (get_or (others_from check (suc p) r) i 0) p b 0 (omega arith)) (h i k))

  others-append : (p a b : ℕ) → others_from check p (a + b) ≡ others_from check p a ++ others_from check (p + a) b
  unfolding others_from
  others-append p zero b = ap₂ (others_from check) (sym (add-zero p)) (zero-add b)
  others-append p (suc a) b =
      go (check p) refl (others-append (suc p) a b ∙ ap (λ q. others_from check (suc p) a ++ others_from check q b) (suc-add p a ∙ sym (add-suc p a)))
    where
      go : (v : Bool) → check p ≡ v → others_from check (suc p) (a + b) ≡ others_from check (suc p) a ++ others_from check (p + suc a) b
          → others_from check p (suc a + b) ≡ others_from check p (suc a) ++ others_from check (p + suc a) b
      go true e rest = ap (λ n. others_from check p n) (suc-add a b) ∙ rw e rest
      go false e rest = ap (λ n. others_from check p n) (suc-add a b) ∙ rw e (ap (λ l. p ∷ l) rest)

  -- place q, no check, has as its number how many before it are none
  pub others-at : (n q : ℕ) → q < n → check q ≡ false → get_or (others_from check 0 n) (length (others_from check 0 q)) 0 ≡ q
  unfolding others_from
  others-at n q l e =
      ap (λ k. get_or (others_from check 0 k) (length (others_from check 0 q)) 0) d ∙ ap (λ x. get_or x (length (others_from check 0 q)) 0)
      (others-append 0 q (suc (n - suc q)))
      ∙ ap (λ k. get_or (others_from check 0 q ++ others_from check k (suc (n - suc q))) (length (others_from check 0 q)) 0) (zero-add q)
      ∙ head (check q) refl
    where
      d : n ≡ q + suc (n - suc q)
      d = omega arith

      head : (v : Bool) → check q ≡ v → get_or (others_from check 0 q ++ others_from check q (suc (n - suc q))) (length (others_from check 0 q)) 0 ≡ q
      head true f = absurd (let z : ◌≡◌ {A = ℕ} 0 1 = cc in omega arith)
      head false f = rw f (get_or-append_seam (others_from check 0 q) q (others_from check (suc q) (n - suc q)) 0)

module _ {L : Limits} {m w c : ℕ} (good : GoodIn L m w c) where
  -- a data place has data places alone before it in its group
  pub data-at : (g j : ℕ) → g < m → j < w → (g + 1 < m → j + c < w) → (g + 1 ≡ m → j + (c + 2) < w) → is_check m w c (g * w + j) ≡ false
  data-at g j l h inner last = elim (dec_lt (g + 1) m) [
    | yes k ↦ check-inner m w c g j k h ∙ lt-leb w (j + c) (inner k)
    | no k ↦ check-last m w c g j (omega arith) h ∙ lt-leb w (j + (c + 2)) (last (omega arith))
  ]

  module _ (i : ℕ) (l : i < data_count m w c) where
    pub group-less : i / (w - c) < m
    group-less =
        let k : 0 < w - c = omega (arith, good.wide) in
        let h : i < m * (w - c) = omega arith in
        (div-lt_iff_lt-mul k).1 h

    pub place-less : i % (w - c) < w - c
    place-less = mod-lt i (omega (arith, good.wide))

    last_less : i / (w - c) + 1 ≡ m → i % (w - c) + 2 < w - c
    last_less e =
        let s : suc (i / (w - c)) * (w - c) ≡ i / (w - c) * (w - c) + (w - c) = suc-mul (i / (w - c)) (w - c) in
        let f : suc (i / (w - c)) ≡ m = omega arith in
        omega (arith, div-add-mod' i (w - c), ap (λ n. n * (w - c)) f)

    pub number_at : is_check m w c (i / (w - c) * w + i % (w - c)) ≡ false
    number_at =
        data-at (i / (w - c)) (i % (w - c)) group-less (let k = place-less in omega arith) (λ _. let k = place-less in omega arith)
        (λ e. let k = last_less e in omega arith)

    before : count_below (i / (w - c) * w + i % (w - c)) (is_check m w c) ≡ i / (w - c) * c
    before =
        total-append (i / (w - c) * w) (i % (w - c)) (λ p. one (is_check m w c p))
        ∙ ap₂ ◌+◌ (checks-before good (i / (w - c)) group-less)
        (total-zero (i % (w - c)) _ (λ q h.
        let k = place-less in
        ap one (data-at (i / (w - c)) q group-less (omega arith) (λ _. omega arith) (λ e. let z = last_less e in omega arith))))
        ∙ add-zero (i / (w - c) * c)

    inside : i / (w - c) * w + i % (w - c) < m * w
    inside =
        let s : suc (i / (w - c)) * w ≤ m * w = mul-le-mul_right w group-less in
        let k = place-less in
        omega (arith, suc-mul (i / (w - c)) w)

    -- number i stands at place i % (w − c) of group i / (w − c)
    pub place_is : place_of m w c i ≡ i / (w - c) * w + i % (w - c)
    unfolding place_of data_places
    place_is =
        let q = i / (w - c) * w + i % (w - c) in
        let z : count_below 0 (is_check m w c) ≡ 0 = total-zero 0 _ (λ p h. absurd (omega arith)) in
        let a : length (others_from (is_check m w c) 0 q) ≡ i =
        (let b = before in
        let le : i / (w - c) * c ≤ i / (w - c) * w = mul-le-mul_left (i / (w - c)) (omega arith) in
        omega (
          arith,
          others-length (is_check m w c) 0 q,
          ap (λ x. count_below x (is_check m w c)) (zero-add q),
          mul-sub (i / (w - c)) w c,
          div-add-mod' i
              (w - c),
        )) in
        ap (λ x. get_or (others_from (is_check m w c) 0 (m * w)) x 0) (sym a) ∙ others-at (is_check m w c) (m * w) q inside number_at

    pub place_inside : place_of m w c i < m * w
    place_inside = subst (λ q. q < m * w) (sym place_is) inside

    -- the data of the word with that place changed
    pub extract-set : (word : List ℕ) (b : ℕ) → length word ≡ m * w → extract_of m w c (set word (place_of m w c i) b) ≡ set (extract_of m w c word) i b
    unfolding place_of extract_over data_places symbols_at
    extract-set word b size =
        others-set (is_check m w c) word b 0 (m * w) i (omega arith) (subst (λ n. i < n) (sym long) l)
      where
        long : length (others_from (is_check m w c) 0 (m * w)) ≡ data_count m w c
        long = data-length good
