-- What holds of edits: both words, before and after, are codewords, so each is known by its data, and each group by its data and its own equations.
use Rattle.std.specs.Prelude.{◌≡◌, Bool, not, List, set, replicate, Ok, Err}
use Rattle.std.proofs.Math.Path.{refl, sym, ap, subst}
use Rattle.std.proofs.Common.{◌∙◌, inl, inr, div-add-mod', mod-lt, div-lt_iff_lt-mul, arith, ne_eqb, length-set, pow_pos, get_or-set_same, ext_get_or}
use Rattle.std.proofs.Math.Bool.{true, false}
use Prim.Native.Nat.{ℕ, zero, suc, ◌+◌, ◌*◌, ◌/◌, ◌%◌, ◌<◌, ◌≤◌, ◌^◌}
use Rattle.std.proofs.Math.Decide.{dec_lt, dec_le, ℕ_discrete}
use borrow.Author.Tests.{lt-leb, le-leb, leb-false, not-true, not-false}
use Rattle.std.proofs.Math.Arith.{digits_div}
use Rattle.std.proofs.Math.Dec.{T}
use Rattle.std.specs.Float.Ieee.Bits.{is_true}
use Rattle.std.proofs.Math.ListN.{length, get_or}
use Rattle.std.proofs.Math.Seq.{get_or-set_other}
use Rattle.std.proofs.lemmas.List.{set-get_or, set_comm}
use Rattle.counting.specs.First.{first_below}
use Rattle.counting.specs.FirstLaws.{first-most, first-before, first_holds}
use Rattle.counting.specs.CountLaws.{count-ext}
use Rattle.answers.specs.declared.Refusal.{Refusal}
use Rattle.answers.specs.Answers.{refusal_number, refusal_group, mending_at}
use Rattle.answers.specs.AnswersLaws.{refusal-some, mending-at}
use Rattle.code.specs.Refusals.{refuse, ◌or_else◌, unless_refused}
use Rattle.code.specs.RefusalsLaws.{or_else-zero, or_else-first, refuse-zero, unless-refused}
use Rattle.code.specs.Limits.{Limits, data_count, GoodIn, SoldIn, sale_refusal_in, word_refusal_in}
use Rattle.code.specs.LimitsLaws.{refusal-of-sold, retired-of-good, good-of-word, word-of-good, word-length}
use Rattle.code_services.specs.Places.{is_check, extract_of, check_marks}
use Rattle.code_services.specs.PlacesLaws.{check-inner, check-last, checks-inner, extract-length, extract-below, agree-extract}
use Rattle.code.specs.Edition.{Edition, Sound}
use Rattle.code.specs.Word.{is_local, is_codeword, Symbols, Codeword}
use Rattle.code.specs.WordLaws.{equations}
use Rattle.code.specs.Marks.{lost_in}
use Rattle.code.specs.DeterminedLaws.{local-unique}
use Rattle.code.specs.CombinedLaws.{place-less}
use Rattle.code.specs.Contradiction.{contradicting_group}
use Rattle.code.proofs.ContradictionLaws.{whole-groups}
use Rattle.code_services.specs.Encode.{encoded_in}
use Rattle.code_services.specs.EncodeDemand.{Encoded}
use Rattle.code_services.specs.EncodeLaws.{encoded, lost-check}
use Rattle.edit.specs.Edit.{place_of, changed_data, edited_in, number_refusal_in, edit_refusal_in, edit_in, edited_buffer_in}
use Rattle.edit.specs.Demand.{EditCall, MayDiffer, Edited, EitherOrder, edited_below, AllEdited, LowestGroup, Refusals}
use Rattle.edit.specs.PlacesLaws.{extract-set}

-- a bound on every entry holds after a change
set_below : (b : ℕ) (xs : List ℕ) (i v : ℕ) → i < length xs → v < b → ((p : ℕ) → get_or xs p 0 < b) → (p : ℕ) → get_or (set xs i v) p 0 < b
set_below b xs i v l h k p = elim (ℕ_discrete p i) [
  | yes e ↦ subst (λ q. get_or (set xs i v) q 0 < b) (sym e) (subst (λ n. n < b) (sym (get_or-set_same xs i v 0 l)) h)
  | no e ↦ subst (λ n. n < b) (sym (get_or-set_other xs i p v 0 e)) (k p)
]

module _ {E : Edition} (S : Sound E) {m w c : ℕ} (good : GoodIn E.limits m w c) (word : List ℕ) (C : Codeword E m w c word)
    (number symbol : ℕ) (below : number < data_count m w c) (small : symbol < 2 ^ E.bits) where
  in-data : number < length (extract_of m w c word)
  in-data = subst (λ n. number < n) (sym (extract-length good word)) below

  -- the word as encoding the changed data would leave it
  pub edited-encoded : Encoded E m w c (set (extract_of m w c word) number symbol) (edited_in E m w c word number symbol)
  unfolding edited_in changed_data
  edited-encoded =
      encoded S good (set (extract_of m w c word) number symbol) (length-set (extract_of m w c word) number symbol ∙ extract-length good word)
      (set_below (2 ^ E.bits) (extract_of m w c word) number symbol in-data small
      (extract-below m w c (2 ^ E.bits) (pow_pos E.bits) word C.symbols.each))

  y : List ℕ
  y = edited_in E m w c word number symbol

  q : ℕ
  q = place_of m w c number

  wide : 0 < w
  wide = let g = good.wide in omega arith

  narrow : w ≤ E.small
  narrow = let h = good.narrow in let k = S.width_narrow in omega arith

  -- at every other data place nothing differs
  at-data : (p : ℕ) → p < m * w → is_check m w c p ≡ false → ¬ (p ≡ q) → get_or y p 0 ≡ get_or word p 0
  unfolding y q
  at-data p l e n =
      agree-extract m w c y (set word q symbol) (edited-encoded.carries ∙ sym (extract-set good number below word symbol C.symbols.size)) p l e
      ∙ get_or-set_other word q p symbol 0 n

  -- nor in another group that is not the last: it is known by its data and its own equations
  in_group : (g : ℕ) → g + 1 < m → ¬ (g ≡ q / w) → (j : ℕ) → j < w → get_or y (g * w + j) 0 ≡ get_or word (g * w + j) 0
  unfolding y lost_in
  in_group g l n =
      local-unique E S w c g wide narrow (check_marks m w c) y word edited-encoded.codeword.symbols.each C.symbols.each
      (λ e h. (equations E m w c y edited-encoded.codeword.zero).locals g (omega arith) e h ∙ sym
      ((equations E m w c word C.zero).locals g (omega arith) e h))
      (λ j h e. at-data (g * w + j) (inside j h) (sym (lost-check S good (g * w + j) (inside j h)) ∙ e) (λ z. n (sym (digits_div g h) ∙ ap (λ a. a / w) z)))
      (let e = count-ext w _ _ (λ j h. lost-check S good (g * w + j) (inside j h)) ∙ checks-inner good g l in omega arith)
    where
      inside : (j : ℕ) → j < w → g * w + j < m * w
      inside j h = place-less m w g j (omega arith) h

  -- "Only the data place, its group's c checks and the last group's c+2 checks may differ."
  pub edited-elsewhere : (p : ℕ) → p < m * w → ¬ (MayDiffer m w c (place_of m w c number) p) → get_or (edited_in E m w c word number symbol) p 0 ≡ get_or word p 0
  unfolding y q
  edited-elsewhere p l n = elim (dec_le w (p % w + c)) [
    | yes h ↦ elim (dec_lt (p / w + 1) m) [
      | yes k ↦
          subst (λ a. get_or y a 0 ≡ get_or word a 0) (div-add-mod' p w)
          (in_group (p / w) k (λ z. n (inr (inl (z, h)))) (p % w) (mod-lt p wide))
      | no k ↦ absurd (n (inr (inr (last k, omega arith))))
    ]
    | no h ↦ elim (dec_lt (p / w + 1) m) [
      | yes k ↦
          at-data p l (is-data (p / w) (p % w) (mod-lt p wide) (check-inner m w c (p / w) (p % w) k (mod-lt p wide) ∙ lt-leb w (p % w + c) (omega arith)))
          (λ z. n (inl z))
      | no k ↦ elim (dec_le w (p % w + (c + 2))) [
        | yes a ↦ absurd (n (inr (inr (last k, a))))
        | no a ↦
            at-data p l (is-data (p / w) (p % w) (mod-lt p wide)
            (check-last m w c (p / w) (p % w) (last k) (mod-lt p wide) ∙ lt-leb w (p % w + (c + 2)) (omega arith))) (λ z. n (inl z))
      ]
    ]
  ]
    where
      group-less : p / w < m
      group-less = (div-lt_iff_lt-mul wide).1 l

      last : ¬ (p / w + 1 < m) → p / w + 1 ≡ m
      last k = let g = group-less in omega arith

      is-data : (g j : ℕ) → j < w → is_check m w c (p / w * w + p % w) ≡ false → is_check m w c p ≡ false
      is-data g j h e = ap (is_check m w c) (sym (div-add-mod' p w)) ∙ e

  -- an edit by the byte that stands there
  pub edited-same : symbol ≡ get_or (extract_of m w c word) number 0 → edited_in E m w c word number symbol ≡ word
  edited-same e = sym (edited-encoded.only word C (sym (ap (set (extract_of m w c word) number) e ∙ set-get_or (extract_of m w c word) number 0)))

-- ---- refusals
module _ {L : Limits} (m w c lent number : ℕ) where
  pub good-of-number : number_refusal_in L m w c lent number ≡ 0 → GoodIn L m w c × (lent ≡ m * w) × (number < data_count m w c)
  unfolding number_refusal_in
  good-of-number e =
      let z = or_else-zero (sale_refusal_in L m w c) _ e in
      let y = or_else-zero (word_refusal_in L m w c lent) _ z.1 in
      let g = good-of-word m w c lent y.0 in
      (g.0, g.1, (let h = leb-false (data_count m w c) number (refuse-zero 29 _ y.1) in omega arith))

  pub number-of-sold : SoldIn L m w c → lent ≡ m * w → number < data_count m w c → number_refusal_in L m w c lent number ≡ 0
  unfolding number_refusal_in
  number-of-sold s e l = simp (refusal-of-sold m w c s, word-of-good m w c lent s.good e, lt-leb (data_count m w c) number l)

module _ {E : Edition} {m w c : ℕ} {word : List ℕ} {number symbol : ℕ} (K : EditCall E m w c word number symbol) where
  pub accepted : edit_refusal_in E m w c word number ≡ 0
  unfolding edit_refusal_in
  accepted =
      let t = is_true (is_codeword E m w c word) K.codeword.zero in
      simp (number-of-sold m w c (length word) number K.sold K.codeword.symbols.size K.below, t)

  pub edited-buffer : edited_buffer_in E m w c word number symbol ≡ edited_in E m w c word number symbol
  unfolding edited_buffer_in
  edited-buffer = ap (λ r. unless_refused r (edited_in E m w c word number symbol) word) accepted

-- ---- calls that are not refused, and calls that are
module _ (E : Edition) (m w c : ℕ) (word : List ℕ) (number : ℕ) where
  -- a good shape, a codeword and a data number below k
  record Accepted : Type 0 where
    good : GoodIn E.limits m w c
    codeword : Codeword E m w c word
    below : number < data_count m w c

  accepted-call : ((p : ℕ) → get_or word p 0 < 2 ^ E.bits) → edit_refusal_in E m w c word number ≡ 0 → Accepted
  unfolding edit_refusal_in
  accepted-call each e =
      let z = or_else-zero (number_refusal_in E.limits m w c (length word) number) _ e in
      let g = good-of-number m w c (length word) number z.0 in
      record {
        good = g.0;
        codeword =
            record { symbols = record { size = g.1; each = each }; zero = subst T (sym (not-false (is_codeword E m w c word) (refuse-zero 8 _ z.1))) tt };
        below = g.2;
      }

  unedited : (symbol : ℕ) → ¬ (edit_refusal_in E m w c word number ≡ 0) → edited_buffer_in E m w c word number symbol ≡ word
  unfolding edited_buffer_in
  unedited symbol n = unless-refused (edit_refusal_in E m w c word number) _ word n

-- a number is refused alike of any two codewords
module _ (E : Edition) (m w c : ℕ) (word x : List ℕ) where
  accepted-again : (j : ℕ) → ((p : ℕ) → get_or word p 0 < 2 ^ E.bits) → edit_refusal_in E m w c word j ≡ 0 → Codeword E m w c x → edit_refusal_in E m w c x j ≡ 0
  unfolding edit_refusal_in
  accepted-again j each e X =
      let z = or_else-zero (number_refusal_in E.limits m w c (length word) j) _ e in
      let t = is_true (is_codeword E m w c x) X.zero in
      let A = accepted-call E m w c word j each e in
      let l : length x ≡ length word = X.symbols.size ∙ sym A.codeword.symbols.size in
      ap (λ n. number_refusal_in E.limits m w c n j or_else refuse 9 (not (is_codeword E m w c x))) l
      ∙ ap (λ r. r or_else refuse 9 (not (is_codeword E m w c x))) z.0 ∙ ap (λ b. refuse 9 (not b)) t

  still-refused : (i j : ℕ) → ((p : ℕ) → get_or word p 0 < 2 ^ E.bits) → edit_refusal_in E m w c word i ≡ 0 → ¬ (edit_refusal_in E m w c word j ≡ 0)
      → Codeword E m w c x → ¬ (edit_refusal_in E m w c x j ≡ 0)
  unfolding edit_refusal_in
  still-refused i j each e n X f =
      let A = accepted-call E m w c word i each e in
      let z = or_else-zero (number_refusal_in E.limits m w c (length x) j) _ f in
      let l : length x ≡ length word = X.symbols.size ∙ sym A.codeword.symbols.size in
      n (ap (λ r. r or_else refuse 9 (not (is_codeword E m w c word))) (ap (λ k. number_refusal_in E.limits m w c k j) (sym l) ∙ z.0)
      ∙ ap (λ b. refuse 9 (not b)) (is_true (is_codeword E m w c word) A.codeword.zero))

-- ---- the demand
module _ {E : Edition} (S : Sound E) where
  -- a call that is lent what it asks for does what the request says
  pub edited : {m w c : ℕ} {word : List ℕ} {number symbol : ℕ} → EditCall E m w c word number symbol → Edited E m w c word number symbol
  unfolding edit_in edited_in
  edited {m} {w} {c} {word} {number} {symbol} K =
      let g = K.sold.good in
      let b = edited-buffer K in
      record {
        done = ap (λ r. mending_at r (contradicting_group E m w c word (replicate (length word) 0))) (accepted K);
        as-encoded = b;
        encoded =
            subst (Encoded E m w c (set (extract_of m w c word) number symbol)) (sym b)
            (edited-encoded S g word K.codeword number symbol K.below K.small);
        elsewhere = λ p l n. ap (λ x. get_or x p 0) b ∙ edited-elsewhere S g word K.codeword number symbol K.below K.small p l n;
        same = λ e. b ∙ edited-same S g word K.codeword number symbol K.below K.small e;
      }

  -- two edits of a codeword, one after the other: the encoding of the data changed twice
  module _ (m w c : ℕ) (word : List ℕ) (each : (p : ℕ) → get_or word p 0 < 2 ^ E.bits) (i a : ℕ) (small : a < 2 ^ E.bits)
      (accepted : edit_refusal_in E m w c word i ≡ 0) where
    once : edited_buffer_in E m w c word i a ≡ edited_in E m w c word i a
    unfolding edited_buffer_in
    once = ap (λ r. unless_refused r (edited_in E m w c word i a) word) accepted

    first : Encoded E m w c (set (extract_of m w c word) i a) (edited_buffer_in E m w c word i a)
    first =
        let A = accepted-call E m w c word i each accepted in
        subst (Encoded E m w c (set (extract_of m w c word) i a)) (sym once) (edited-encoded S A.good word A.codeword i a A.below small)

    twice : (j b : ℕ) → edit_refusal_in E m w c word j ≡ 0
        → edited_buffer_in E m w c (edited_buffer_in E m w c word i a) j b ≡ encoded_in E m w c (set (set (extract_of m w c word) i a) j b)
    unfolding edited_buffer_in edited_in changed_data
    twice j b e =
        ap (λ r. unless_refused r (edited_in E m w c (edited_buffer_in E m w c word i a) j b) (edited_buffer_in E m w c word i a))
        (accepted-again E m w c word (edited_buffer_in E m w c word i a) j each e first.codeword)
        ∙ ap (λ d. encoded_in E m w c (set d j b)) first.carries

    -- an edit that is refused before is refused after
    refused-after : (j b : ℕ) → ¬ (edit_refusal_in E m w c word j ≡ 0)
        → edited_buffer_in E m w c (edited_buffer_in E m w c word i a) j b ≡ edited_buffer_in E m w c (edited_buffer_in E m w c word j b) i a
    refused-after j b n =
        unedited E m w c (edited_buffer_in E m w c word i a) j b
        (still-refused E m w c word (edited_buffer_in E m w c word i a) i j each accepted n first.codeword)
        ∙ ap (λ x. edited_buffer_in E m w c x i a) (sym (unedited E m w c word j b n))

  -- of every word of symbols and every two edits, refused ones too
  pub either_order : (m w c : ℕ) (word : List ℕ) → ((p : ℕ) → get_or word p 0 < 2 ^ E.bits) → (i a j b : ℕ) → a < 2 ^ E.bits → b < 2 ^ E.bits
      → EitherOrder E m w c word i a j b
  either_order m w c word each i a j b ha hb n = elim (ℕ_discrete (edit_refusal_in E m w c word i) 0) [
    | yes e ↦ elim (ℕ_discrete (edit_refusal_in E m w c word j) 0) [
      | yes f ↦
          twice m w c word each i a ha e j b f ∙ ap (encoded_in E m w c) (set_comm (extract_of m w c word) i j a b n) ∙ sym
          (twice m w c word each j b hb f i a e)
      | no f ↦ refused-after m w c word each i a ha e j b f
    ]
    | no e ↦ elim (ℕ_discrete (edit_refusal_in E m w c word j) 0) [
      | yes f ↦ sym (refused-after m w c word each j b hb f i a e)
      | no f ↦
          ap (λ x. edited_buffer_in E m w c x j b) (unedited E m w c word i a e) ∙ unedited E m w c word j b f
          ∙ sym (ap (λ x. edited_buffer_in E m w c x i a) (unedited E m w c word j b f) ∙ unedited E m w c word i a e)
    ]
  ]

  module _ {m w c : ℕ} (s : SoldIn E.limits m w c) (word : List ℕ) (C : Codeword E m w c word) (carried : List ℕ) (size : length carried ≡ data_count m w c)
      (small : (i : ℕ) → get_or carried i 0 < 2 ^ E.bits) where
    -- after the edits below i
    record Below (i : ℕ) : Type 0 where
      codeword : Codeword E m w c (edited_below E m w c word carried i)
      new : (j : ℕ) → j < i → get_or (extract_of m w c (edited_below E m w c word carried i)) j 0 ≡ get_or carried j 0

    one_more : (i : ℕ) → i < data_count m w c → Below i → Below (suc i)
    unfolding edited_below
    one_more i l B =
        let K : EditCall E m w c (edited_below E m w c word carried i) i (get_or carried i 0) =
        record { sold = s; codeword = B.codeword; below = l; small = small i } in
        let x = extract_of m w c (edited_below E m w c word carried i) in
        let D = edited K in
        record {
          codeword = D.encoded.codeword;
          new = λ j h. ap (λ d. get_or d j 0) D.encoded.carries ∙ elim (ℕ_discrete j i) [
            | yes e ↦
                subst (λ n. get_or (set x i (get_or carried i 0)) n 0 ≡ get_or carried n 0) (sym e)
                (get_or-set_same x i (get_or carried i 0) 0 (subst (λ n. i < n) (sym (extract-length s.good (edited_below E m w c word carried i))) l))
            | no e ↦ get_or-set_other x i j (get_or carried i 0) 0 e ∙ B.new j (omega arith)
          ];
        }

    upto : (i : ℕ) → i ≤ data_count m w c → Below i
    unfolding edited_below
    upto zero l = record { codeword = C; new = λ j h. absurd (omega arith) }
    upto (suc i) l = one_more i (omega arith) (upto i (omega arith))

    -- edits one after another on all k numbers end in the encoding of the new data
    pub all-edited : AllEdited E m w c word carried
    all-edited =
        let k = data_count m w c in
        let B = upto k (omega arith) in
        (encoded S s.good carried size small).only (edited_below E m w c word carried k) B.codeword
        (ext_get_or 0 _ carried (extract-length s.good (edited_below E m w c word carried k) ∙ sym size)
        (λ j l. B.new j (subst (λ n. j < n) (extract-length s.good (edited_below E m w c word carried k)) l)))

-- ---- refusals
-- a number other than 9 carries no group
other-group : (r g h : ℕ) → (r ≡ 9 → ⊥) → mending_at r g ≡ mending_at r h
other-group zero g h n = refl
other-group (suc r) g h n = rw (ne_eqb (suc r) 9 n) refl

pub mending-refused : (e : Refusal) (g : ℕ) → (refusal_number e ≡ 9 → ⊥) → mending_at (refusal_number e) g ≡ Err e
mending-refused e g n = other-group (refusal_number e) g (refusal_group e) n ∙ mending-at (Err e)

module _ (E : Edition) (m w c : ℕ) (word : List ℕ) (number symbol : ℕ) where
  group : ℕ
  group = contradicting_group E m w c word (replicate (length word) 0)

  stays : ¬ (edit_in E m w c word number ≡ Ok tt) → edited_buffer_in E m w c word number symbol ≡ word
  unfolding edit_in edited_buffer_in group
  stays n = go (edit_refusal_in E m w c word number) refl
    where
      go : (r : ℕ) → edit_refusal_in E m w c word number ≡ r → unless_refused r (edited_in E m w c word number symbol) word ≡ word
      go zero e = absurd (n (ap (λ r. mending_at r group) e))
      go (suc r) e = refl

  -- the first refusal that applies is the answer
  by-refusal : (e : Refusal) → (refusal_number e ≡ 9 → ⊥) → number_refusal_in E.limits m w c (length word) number ≡ refusal_number e
      → edit_in E m w c word number ≡ Err e
  unfolding edit_in edit_refusal_in group
  by-refusal e k is =
      ap (λ t. mending_at (t or_else refuse 9 (not (is_codeword E m w c word))) group) is
      ∙ ap (λ t. mending_at t group) (or_else-first (refusal_number e) _ (refusal-some e)) ∙ mending-refused e group k

  retired : GoodIn E.limits m w c → c ≡ 4 → edit_in E m w c word number ≡ Err Refusal.Retired
  unfolding number_refusal_in
  retired g e = by-refusal Refusal.Retired (λ z. omega arith) (simp (retired-of-good m w c g e))

  other_length : SoldIn E.limits m w c → ¬ (length word ≡ m * w) → edit_in E m w c word number ≡ Err Refusal.Length
  unfolding number_refusal_in
  other_length s n = by-refusal Refusal.Length (λ z. omega arith) (simp (refusal-of-sold m w c s, word-length m w c (length word) s.good n))

  beyond : SoldIn E.limits m w c → length word ≡ m * w → data_count m w c ≤ number → edit_in E m w c word number ≡ Err Refusal.DataNumber
  unfolding number_refusal_in
  beyond s size l =
      by-refusal Refusal.DataNumber (λ z. omega arith)
      (simp (refusal-of-sold m w c s, word-of-good m w c (length word) s.good size, le-leb (data_count m w c) number l))

  contradictory : SoldIn E.limits m w c → Symbols E (m * w) word → number < data_count m w c → ¬ Codeword E m w c word
      → (g : ℕ) × (edit_in E m w c word number ≡ Err (Refusal.Contradictory g)) × LowestGroup E m w c word g
  unfolding edit_in edit_refusal_in group
  contradictory s y l n = (
    group,
    ap (λ t. mending_at (t or_else refuse 9 (not (is_codeword E m w c word))) group) (number-of-sold m w c (length word) number s y.size l)
        ∙ ap (λ b. mending_at (refuse 9 (not b)) group) (no (is_codeword E m w c word) (λ t. n (record { symbols = y; zero = t }))),
    subst (LowestGroup E m w c word) (whole-groups E m w c word y.size y.each) lowest,
  )
    where
      no : (b : Bool) → (T b → ⊥) → b ≡ false
      no true h = absurd (h tt)
      no false h = refl

      f : ℕ → Bool
      f i = not (is_local E w c word i)

      lowest : LowestGroup E m w c word (first_below m (λ i. not (is_local E w c word i)))
      lowest = record {
        most = first-most m f;
        broken = λ h. not-true (is_local E w c word (first_below m f)) (first_holds m f h);
        lower = λ i h. not-false (is_local E w c word i) (first-before m f i h);
      }

  -- every call keeps to the order of the refusals
  pub refusals : Refusals E m w c word number symbol
  refusals = record { stays = stays; retired = retired; other_length = other_length; beyond = beyond; contradictory = contradictory }
