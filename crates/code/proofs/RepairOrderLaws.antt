-- Laws: Demand 3: group repairs first, in any order, repeated and refused ones included, do not change what a recovery answers.
use Rattle.std.specs.Prelude.{◌≡◌, refl, false, T, ltb, length, replicate}
use Rattle.std.proofs.Math.Path.{sym, ap, subst}
use Rattle.std.proofs.Common.{◌∙◌, lt-ltb, le-ltb, ltb-false}
use mathlib.Core.List.{List, [], ◌∷◌}
use Prim.Native.Nat.{ℕ, zero, suc, ◌+◌, ◌-◌, ◌*◌, ◌<◌, ◌≤◌, ◌^◌}
use Rattle.std.proofs.Math.Nat.{suc-mul, mul-le-mul_right}
use native.Mathlib.Omega.{arith}
use Rattle.std.proofs.Math.Decide.{dec_lt, ℕ_discrete}
use Rattle.std.proofs.Math.Dec.{eqb}
use Rattle.std.proofs.Math.ListN.{get_or, length-replicate, get_or-replicate}
use Rattle.counting.specs.FirstLaws.{first-ext}
use Rattle.counting.specs.Count.{one}
use Rattle.counting.specs.CountLaws.{total_ext, total-zero}
use Rattle.code.specs.Edition.{Edition, Sound}
use Rattle.code.specs.Word.{Symbols, is_local}
use Rattle.code.specs.WordLaws.{equations, zero-local}
use Rattle.code.specs.Marks.{lost, lost_in, group_excess, excess}
use Rattle.code.specs.FillingLaws.{filling-symbols}
use Rattle.code.specs.DeterminedLaws.{above-two}
use Rattle.code.specs.Outcome.{Outcome}
use Rattle.code.specs.Outcome as Outcome
use Rattle.code.specs.OutcomeLaws as OutcomeLaws
use Rattle.code.specs.Recovery.{Agrees, SameStart}
use Rattle.code.specs.RecoveryLaws.{same_end, recovered-eight, eight-undetermined}
use Rattle.code.specs.RecoveryLaws as RecoveryLaws
use Rattle.code.specs.Stretch.{stretch, with_stretch}
use Rattle.code.specs.StretchLaws.{stretch-at, stretch-length, with-same, with-length, with-inside, with-before, with-after, stretch-below, stretch-sum}
use Rattle.code.specs.StretchLaws.{stretch-count, place-cases, stretch-ext, stretch-with}
use Rattle.code.specs.Contradiction.{is_broken, contradicting_group}
use Rattle.code.proofs.ContradictionLaws.{filling-sound, same-broken}
use Rattle.code.specs.Repair.{repaired, repaired_group, Satisfies}
use Rattle.code.specs.RepairLaws.{only-filling}
use Rattle.code.specs.RepairOrder.{Held, after_repair, after_repairs, Fits, SameRecovery}

module _ (E : Edition) (S : Sound E) (m w c : ℕ) (few : m ≤ S.r) (wide : 0 < w) (narrow : w ≤ E.small) where
  same_refl : (h : Held) → SameStart E m w c h.word h.marks h.word h.marks
  same_refl h = record { excess-same = refl; group-same = refl; forth = λ y A. A; back = λ y A. A }

  same-trans : (a b d : Held) → SameStart E m w c a.word a.marks b.word b.marks → SameStart E m w c b.word b.marks d.word d.marks
      → SameStart E m w c a.word a.marks d.word d.marks
  same-trans a b d P Q = record {
    excess-same = P.excess-same ∙ Q.excess-same;
    group-same = P.group-same ∙ Q.group-same;
    forth = λ y A. Q.forth y (P.forth y A);
    back = λ y A. P.back y (Q.back y A);
  }

  -- what a step owes
  record Kept (before after : Held) : Type 0 where
    fits : Fits E S m w c few wide narrow after
    same : SameStart E m w c after.word after.marks before.word before.marks

  module _ (h : Held) (F : Fits E S m w c few wide narrow h) (g : ℕ) (l : g < m) where
    fits_word : suc g * w ≤ length h.word
    fits_word = subst (λ n. suc g * w ≤ n) (sym F.symbols.size) (mul-le-mul_right w l)

    fits-marks : suc g * w ≤ length h.marks
    fits-marks = subst (λ n. suc g * w ≤ n) (sym F.size) (mul-le-mul_right w l)

    part-symbols : Symbols E w (stretch w g h.word)
    part-symbols = record { size = stretch-length w g h.word fits_word; each = stretch-below w g h.word (2 ^ E.bits) F.symbols.each }

    -- a refused repair, by whatever number and group, changes nothing
    unchanged : (r i : ℕ) → repaired E w c g (stretch w g h.word) (stretch w g h.marks)
        ≡ record { number = r; group = i; word = stretch w g h.word; marks = stretch w g h.marks }
        → record { word = (repaired_group E w c g h.word h.marks).word; marks = (repaired_group E w c g h.word h.marks).marks } ≡ h
    unchanged r i e =
        ap (λ o. record { word = with_stretch w g h.word o.word; marks = with_stretch w g h.marks o.marks }) e
        ∙ ap (λ x. record { word = x; marks = with_stretch w g h.marks (stretch w g h.marks) }) (with-same w g h.word fits_word)
        ∙ ap (λ x. record { word = h.word; marks = x }) (with-same w g h.marks fits-marks)

    -- a repair that is done: the filling x stands in the stretch, and its marks are clear
    module _ (x : List ℕ) (low : lost_in w (stretch w g h.marks) 0 ≤ c) (P : Satisfies E w c (stretch w g h.marks) (stretch w g h.word) x) where
      clear : List ℕ
      clear = replicate (length (stretch w g h.marks)) 0

      word' : List ℕ
      word' = with_stretch w g h.word x

      marks' : List ℕ
      marks' = with_stretch w g h.marks clear

      x-size : length x ≡ w
      x-size = P.fills.size ∙ stretch-length w g h.word fits_word

      clear-size : length clear ≡ w
      unfolding clear
      clear-size = length-replicate (length (stretch w g h.marks)) 0 ∙ stretch-length w g h.marks fits-marks

      clear-inside : (j : ℕ) → j < w → lost marks' (g * w + j) ≡ false
      unfolding marks' clear
      clear-inside j k =
          ap (λ b. eqb b 1)
          (with-inside w g h.marks fits-marks clear clear-size j k
          ∙ get_or-replicate (length (stretch w g h.marks)) j 0 0 (subst (λ n. j < n) (sym (stretch-length w g h.marks fits-marks)) k))

      lost-before : (p : ℕ) → p < g * w → lost marks' p ≡ lost h.marks p
      unfolding marks'
      lost-before p k = ap (λ b. eqb b 1) (with-before w g h.marks fits-marks clear clear-size p k)

      lost-after : (p : ℕ) → suc g * w ≤ p → lost marks' p ≡ lost h.marks p
      unfolding marks'
      lost-after p k = ap (λ b. eqb b 1) (with-after w g h.marks fits-marks clear clear-size p k)

      x-symbols : Symbols E w x
      x-symbols = filling-symbols E w (stretch w g h.marks) (stretch w g h.word) x part-symbols P.fills

      fits' : Fits E S m w c few wide narrow (record { word = word'; marks = marks' })
      unfolding word' marks'
      fits' = record {
        symbols = record {
          size = with-length w g h.word fits_word x x-size ∙ F.symbols.size;
          each = place-cases (λ p. get_or word' p 0 < 2 ^ E.bits) w g
              (λ p k. subst (λ n. n < 2 ^ E.bits) (sym (with-before w g h.word fits_word x x-size p k)) (F.symbols.each p))
              (λ j k. subst (λ n. n < 2 ^ E.bits) (sym (with-inside w g h.word fits_word x x-size j k)) (x-symbols.each j))
              (λ p k. subst (λ n. n < 2 ^ E.bits) (sym (with-after w g h.word fits_word x x-size p k)) (F.symbols.each p));
        };
        size = with-length w g h.marks fits-marks clear clear-size ∙ F.size;
      }

      -- the excess: the group had none and has none, the others have what they had
      group-same : (i : ℕ) → i < m → group_excess w c marks' i ≡ group_excess w c h.marks i
      unfolding lost_in
      group-same i k = elim (ℕ_discrete i g) [
        | yes e ↦
            (let z : lost_in w marks' i ≡ 0 = total-zero w _ (λ j q. ap one (ap (λ n. lost marks' (n * w + j)) e ∙ clear-inside j q)) in
            let o : lost_in w h.marks i ≤ c = subst (λ n. n ≤ c) (stretch-count w g h.marks ∙ ap (lost_in w h.marks) (sym e)) low in
            omega arith)
        | no n ↦ ap (λ q. q - c) (total_ext w _ _ (λ j q. ap one (other i n j q)))
      ]
        where
          other : (i : ℕ) → ¬ (i ≡ g) → (j : ℕ) → j < w → lost marks' (i * w + j) ≡ lost h.marks (i * w + j)
          other i n j q = elim (dec_lt i g) [
            | yes b ↦ lost-before (i * w + j) (let z : suc i * w ≤ g * w = mul-le-mul_right w b in let e = suc-mul i w in omega arith)
            | no b ↦ (let k : suc g ≤ i = omega arith in lost-after (i * w + j) (let z : suc g * w ≤ i * w = mul-le-mul_right w k in omega arith))
          ]

      word-before : (p : ℕ) → p < g * w → get_or word' p 0 ≡ get_or h.word p 0
      unfolding word'
      word-before p k = with-before w g h.word fits_word x x-size p k

      word_after : (p : ℕ) → suc g * w ≤ p → get_or word' p 0 ≡ get_or h.word p 0
      unfolding word'
      word_after p k = with-after w g h.word fits_word x x-size p k

      word-inside : (j : ℕ) → j < w → get_or word' (g * w + j) 0 ≡ get_or x j 0
      unfolding word'
      word-inside j k = with-inside w g h.word fits_word x x-size j k

      part-lost : (j : ℕ) → j < w → lost (stretch w g h.marks) j ≡ lost h.marks (g * w + j)
      part-lost j k = ap (λ b. eqb b 1) (stretch-at w g h.marks j k)

      in-part : (j : ℕ) → j < w → j < length (stretch w g h.word)
      in-part j k = subst (λ n. j < n) (sym (stretch-length w g h.word fits_word)) k

      -- a present place of the stretch
      kept-inside : (j : ℕ) → j < w → lost h.marks (g * w + j) ≡ false → get_or word' (g * w + j) 0 ≡ get_or h.word (g * w + j) 0
      kept-inside j k e = word-inside j k ∙ P.fills.present j (in-part j k) (part-lost j k ∙ e) ∙ stretch-at w g h.word j k

      forth : (y : List ℕ) → Agrees E m w c marks' word' y → Agrees E m w c h.marks h.word y
      forth y A = record {
        codeword = A.codeword;
        agree = place-cases (λ p. p < m * w → lost h.marks p ≡ false → get_or y p 0 ≡ get_or h.word p 0) w g
            (λ p k b e. A.agree p b (lost-before p k ∙ e) ∙ word-before p k)
            (λ j k b e. A.agree (g * w + j) b (clear-inside j k) ∙ kept-inside j k e)
            (λ p k b e. A.agree p b (lost-after p k ∙ e) ∙ word_after p k);
      }

      in-word : (j : ℕ) → j < w → g * w + j < m * w
      in-word j k = let z : suc g * w ≤ m * w = mul-le-mul_right w l in let e = suc-mul g w in omega arith

      -- a codeword that agrees satisfies the group's own equations, so on the group it is the filling
      own-filling : (y : List ℕ) → Agrees E m w c h.marks h.word y → stretch w g y ≡ x
      own-filling y A =
          only-filling E S w c wide narrow (stretch w g h.word) (stretch w g h.marks) part-symbols low (stretch w g y) x
          (record {
            fills = record { size = size; present = present; each = λ p _ _. stretch-below w g y (2 ^ E.bits) A.codeword.symbols.each p };
            passes = passes;
          }) P
        where
          fits-y : suc g * w ≤ length y
          fits-y = subst (λ n. suc g * w ≤ n) (sym A.codeword.symbols.size) (mul-le-mul_right w l)

          size : length (stretch w g y) ≡ length (stretch w g h.word)
          size = stretch-length w g y fits-y ∙ sym (stretch-length w g h.word fits_word)

          present : (p : ℕ) → p < length (stretch w g h.word) → lost (stretch w g h.marks) p ≡ false → get_or (stretch w g y) p 0
              ≡ get_or (stretch w g h.word) p 0
          present p q e =
              let k : p < w = subst (λ n. p < n) (stretch-length w g h.word fits_word) q in
              stretch-at w g y p k ∙ A.agree (g * w + p) (in-word p k) (sym (part-lost p k) ∙ e) ∙ sym (stretch-at w g h.word p k)

          passes : T (is_local E w c (stretch w g y) 0)
          passes = zero-local E w c (stretch w g y) 0 (λ e q. stretch-sum E w g y _ ∙ (equations E m w c y A.codeword.zero).locals g l e q)

      back : (y : List ℕ) → Agrees E m w c h.marks h.word y → Agrees E m w c marks' word' y
      back y A = record {
        codeword = A.codeword;
        agree = place-cases (λ p. p < m * w → lost marks' p ≡ false → get_or y p 0 ≡ get_or word' p 0) w g
            (λ p k b e. A.agree p b (sym (lost-before p k) ∙ e) ∙ sym (word-before p k))
            (λ j k b e. sym (stretch-at w g y j k) ∙ ap (λ z. get_or z j 0) (own-filling y A) ∙ sym (word-inside j k))
            (λ p k b e. A.agree p b (sym (lost-after p k) ∙ e) ∙ sym (word_after p k));
      }

      -- which groups are broken: this one wasn't and isn't, the others are what they were
      other-part : (xs : List ℕ) (ys : List ℕ) → length xs ≡ length ys → ((p : ℕ) → p < g * w → get_or xs p 0 ≡ get_or ys p 0)
          → ((p : ℕ) → suc g * w ≤ p → get_or xs p 0 ≡ get_or ys p 0) → (i : ℕ) → ¬ (i ≡ g) → stretch w i xs ≡ stretch w i ys
      other-part xs ys size before after i n = stretch-ext w i xs ys size λ j q. elim (dec_lt i g) [
        | yes b ↦ before (i * w + j) (let z : suc i * w ≤ g * w = mul-le-mul_right w b in let e = suc-mul i w in omega arith)
        | no b ↦ (let k : suc g ≤ i = omega arith in after (i * w + j) (let z : suc g * w ≤ i * w = mul-le-mul_right w k in omega arith))
      ]

      broken-same : (i : ℕ) → i < m → is_broken E w c word' marks' i ≡ is_broken E w c h.word h.marks i
      unfolding word' marks'
      broken-same i k = elim (ℕ_discrete i g) [
        | yes e ↦
            subst (λ n. is_broken E w c word' marks' n ≡ is_broken E w c h.word h.marks n) (sym e)
            (filling-sound E w c word' marks' g x now ∙ sym (filling-sound E w c h.word h.marks g x P))
        | no n ↦
            same-broken E w c word' marks' h.word h.marks i
            (other-part word' h.word (with-length w g h.word fits_word x x-size) word-before word_after i n)
            (other-part marks' h.marks (with-length w g h.marks fits-marks clear clear-size)
            (with-before w g h.marks fits-marks clear clear-size) (with-after w g h.marks fits-marks clear clear-size) i n)
      ]
        where
          own : stretch w g word' ≡ x
          own = stretch-with w g h.word x fits_word x-size

          now : Satisfies E w c (stretch w g marks') (stretch w g word') x
          now = record {
            fills = record {
              size = ap length (sym own);
              present = λ p _ _. ap (λ z. get_or z p 0) (sym own);
              each = λ p _ _. x-symbols.each p;
            };
            passes = P.passes;
          }

      repaired-kept : Kept h (record { word = word'; marks = marks' })
      unfolding excess contradicting_group
      repaired-kept = record {
        fits = fits';
        same = record {
          excess-same = total_ext m _ _ group-same;
          group-same = first-ext m _ _ broken-same;
          forth =
              forth;
          back = back;
        };
      }

    -- one repair of a group of the word
    group-kept : Kept h (record { word = (repaired_group E w c g h.word h.marks).word; marks = (repaired_group E w c g h.word h.marks).marks })
    unfolding word' marks' clear
    group-kept =
        elim (OutcomeLaws.cases (2 ^ E.bits) (λ x. is_local E w c x 0) (ltb c (lost_in w (stretch w g h.marks) 0)) g (stretch w g h.word)
        (stretch w g h.marks)) [
          | Outcome.eight _ e ↦ subst (Kept h) (sym (unchanged 8 0 e)) (record { fits = F; same = same_refl h })
          | Outcome.nine _ _ e ↦ subst (Kept h) (sym (unchanged 9 g e)) (record { fits = F; same = same_refl h })
          | Outcome.done s x P e ↦
              subst (λ (o : Outcome). Kept h (record { word = with_stretch w g h.word o.word; marks = with_stretch w g h.marks o.marks })) (sym e)
              (repaired-kept x (ltb-false c (lost_in w (stretch w g h.marks) 0) s) P)
        ]

  -- one repair with any group number
  repair-kept : (h : Held) → Fits E S m w c few wide narrow h → (g : ℕ) → Kept h (after_repair E m w c g h)
  unfolding after_repair
  repair-kept h F g = elim (dec_lt g m) [
    | yes l ↦ rw (lt-ltb g m l) (group-kept h F g l)
    | no l ↦ rw (le-ltb g m (omega arith)) (record { fits = F; same = same_refl h })
  ]

  repairs-kept : (gs : List ℕ) (h : Held) → Fits E S m w c few wide narrow h → Kept h (after_repairs E m w c gs h)
  unfolding after_repairs
  repairs-kept [] h F = record { fits = F; same = same_refl h }
  repairs-kept (g ∷ gs) h F =
      let K = repair-kept h F g in
      let L = repairs-kept gs (after_repair E m w c g h) K.fits in
      record { fits = L.fits; same = same-trans (after_repairs E m w c gs (after_repair E m w c g h)) (after_repair E m w c g h) h L.same K.same }

  -- what is held after the list still fits the shape
  pub repairs-fit : (gs : List ℕ) (h : Held) → Fits E S m w c few wide narrow h → Fits E S m w c few wide narrow (after_repairs E m w c gs h)
  repairs-fit gs h F = (repairs-kept gs h F).fits

  -- Demand 3, for any n symbols, any n marks and every list of group numbers.
  pub order : (gs : List ℕ) (h : Held) → Fits E S m w c few wide narrow h → SameRecovery E S m w c few wide narrow gs h
  order gs h F =
      let K = repairs-kept gs h F in
      let same = same_end E S m w c few wide narrow end.word end.marks h.word h.marks K.fits.symbols F.symbols
      (K.fits.size ∙ sym F.size) K.same in
      record {
        same = same;
        eight = λ e. above-two E S m w c few wide narrow h.marks (eight-undetermined E S m w c few wide narrow h.word h.marks F.symbols
            (sym same.number ∙ e));
        above = λ k. same.number ∙ ap (λ o. o.number) (recovered-eight E S m w c few wide narrow h.word h.marks F.symbols k);
        clear = λ e. (RecoveryLaws.done-single E S m w c few wide narrow end.word end.marks K.fits.symbols e).clear
            ∙ ap (λ n. replicate n 0) K.fits.size;
      }
    where
      end : Held
      end = after_repairs E m w c gs h
