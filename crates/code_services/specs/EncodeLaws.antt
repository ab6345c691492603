-- Encoding gives the one codeword that carries the data.
use Rattle.std.specs.Prelude.{◌≡◌, refl, Bool, true, false, List, eqb, length, get_or}
use Rattle.std.proofs.Math.Path.{sym, ap}
use Rattle.std.proofs.Common.{ap₂, ◌∙◌, subst, suc-mul, mul-le-mul_right, pow_pos}
use Prim.Native.Nat.{ℕ, zero, suc, ◌+◌, ◌-◌, ◌*◌, ◌<◌, ◌≤◌, ◌^◌}
use native.Mathlib.Omega.{arith}
use Rattle.std.proofs.Math.Decide.{dec_lt}
use Rattle.counting.specs.Count.{total_below, count_below}
use Rattle.counting.specs.CountLaws.{total_ext, total-suc, total-zero, count-ext}
use Rattle.answers.specs.Answers.{answer_at}
use Rattle.code.specs.Refusals.{unless_refused}
use Rattle.code.specs.RefusalsLaws.{or_else-zero}
use Rattle.code.specs.Limits.{Limits, place_count, data_count, GoodIn, SoldIn, sale_refusal_in, buffer_refusal_in}
use Rattle.code.specs.LimitsLaws.{refusal-of-sold, retired-of-good, word-of-good, good-of-buffers, buffers-of-good}
use Rattle.code_services.specs.Places.{is_check, extract_of, placed_of, check_marks, mark}
use Rattle.code_services.specs.PlacesLaws.{checks-inner, checks-last, marks-length, marks-at, marks-small, placed-length, placed_below}
use Rattle.code_services.specs.PlacesLaws.{extract-placed}
use Rattle.code_services.specs.PlacesLaws.{extract-agree, agree-extract}
use Rattle.code_services.specs.MarksLaws.{marks-of-good}
use Rattle.code.specs.Edition.{Edition, Sound}
use Rattle.code.specs.Word.{Symbols, Codeword}
use Rattle.code.specs.Marks.{lost, lost_in, excess}
use Rattle.code.specs.Outcome.{Outcome, done_with}
use Rattle.code.specs.Recovery.{Agrees, recovered}
use Rattle.code.specs.RecoveryLaws.{recovered-done, only_one}
use Rattle.code.specs.EncodingLaws.{carried, carried-agrees}
use Rattle.code_services.specs.Recover.{unless_before, recover_refusal_in, recover_in}
use Rattle.code_services.specs.Encode.{encoded_in, encode_refusal_in, encode_in, encoded_buffer_in}
use Rattle.code_services.specs.EncodeDemand.{Encoded, EncodeDemandTwo, Retired}

module _ {E : Edition} (S : Sound E) {m w c : ℕ} (good : GoodIn E.limits m w c) where
  -- the lost places are the check places
  pub lost-check : (p : ℕ) → p < m * w → lost (check_marks m w c) p ≡ is_check m w c p
  lost-check p l = ap (λ b. eqb b 1) (marks-at m w c p l) ∙ go (is_check m w c p)
    where
      go : (v : Bool) → eqb (mark v) 1 ≡ v
      go true = refl
      go false = refl

  in-word : (g j : ℕ) → g < m → j < w → g * w + j < m * w
  in-word g j l h = omega (arith, suc-mul g w, mul-le-mul_right {m = suc g} {n = m} w (omega arith))

  lost-count : (g : ℕ) → g < m → lost_in w (check_marks m w c) g ≡ count_below w (λ j. is_check m w c (g * w + j))
  unfolding lost_in
  lost-count g l = count-ext w _ _ (λ j h. lost-check (g * w + j) (in-word g j l h))

  full : (g : ℕ) → g < m → c ≤ lost_in w (check_marks m w c) g
  full g l = elim (dec_lt (g + 1) m) [
    | yes h ↦ (let e = lost-count g l ∙ checks-inner good g h in omega arith)
    | no h ↦ (let e = lost-count g l ∙ checks-last good g (omega arith) in omega arith)
  ]

  two : excess m w c (check_marks m w c) ≡ 2
  unfolding excess
  two =
      let g = m - 1 in
      let some = good.some in
      let e : m ≡ suc g = omega arith in
      let inner : total_below g (λ i. lost_in w (check_marks m w c) i - c) ≡ 0 =
      total-zero g (λ i. lost_in w (check_marks m w c) i - c) (λ i l. let d = lost-count i (omega arith) ∙ checks-inner good i (omega arith) in omega arith)
      in
      let last : lost_in w (check_marks m w c) g ≡ c + 2 = lost-count g (omega arith) ∙ checks-last good g (omega arith) in
      ap (λ n. total_below n (λ i. lost_in w (check_marks m w c) i - c)) e ∙ total-suc g (λ i. lost_in w (check_marks m w c) i - c) ∙ omega arith

  -- with the check places lost any word of n is accepted, and its excess is 2
  pub checks-low : excess m w c (check_marks m w c) ≤ 2
  checks-low = let e = two in omega arith

  pub checks-accepted : (word : List ℕ) → length word ≡ m * w → recover_refusal_in E.limits m w c word (check_marks m w c) ≡ 0
  unfolding recover_refusal_in
  checks-accepted word size =
      simp (
        word-of-good m w c (length word) good size,
        marks-of-good m w c (check_marks m w c) (record {
          good = good;
          size = marks-length m w c;
          each = λ p. let h = marks-small m w c p in omega arith;
        }),
      )

  wide : 0 < w
  wide = let g = good in omega arith

  few : m ≤ S.r
  few = let h = good.few in let k = S.groups-few in omega arith

  narrow : w ≤ E.small
  narrow = let h = good.narrow in let k = S.width_narrow in omega arith

  module _ (carries : List ℕ) (size : length carries ≡ data_count m w c) (small : (i : ℕ) → get_or carries i 0 < 2 ^ E.bits) where
    symbols : Symbols E (m * w) (placed_of m w c carries)
    symbols = record { size = placed-length m w c carries; each = placed_below m w c (2 ^ E.bits) (pow_pos E.bits) carries small }

    agreeing : List ℕ
    agreeing = carried E S m w c few wide narrow (check_marks m w c) (marks-length m w c) full two (placed_of m w c carries)

    agreeing-agrees : Agrees E m w c (check_marks m w c) (placed_of m w c carries) agreeing
    unfolding agreeing
    agreeing-agrees =
        carried-agrees E S m w c few wide narrow (check_marks m w c) (marks-length m w c) full two (placed_of m w c carries) symbols

    encoded-is : agreeing ≡ encoded_in E m w c carries
    unfolding encoded_in
    encoded-is =
        sym (ap (λ (o : Outcome). o.word) (recovered-done E S m w c few wide narrow (placed_of m w c carries) (check_marks m w c) symbols agreeing
        checks-low agreeing-agrees))

    agrees : Agrees E m w c (check_marks m w c) (placed_of m w c carries) (encoded_in E m w c carries)
    agrees = subst (Agrees E m w c (check_marks m w c) (placed_of m w c carries)) encoded-is agreeing-agrees

    -- It is a codeword, Extract gives the data back, and it is the only codeword with that data: of all four c, so that any data have one codeword.
    pub encoded : Encoded E m w c carries (encoded_in E m w c carries)
    encoded = record {
      codeword = agrees.codeword;
      carries = extract-agree m w c _ _ (λ p l e. agrees.agree p l (lost-check p l ∙ e)) ∙ extract-placed good carries size;
      only = λ y C d.
          only_one E S m w c few wide narrow (placed_of m w c carries) (check_marks m w c) symbols checks-low
          y (encoded_in E m w c carries)
          (record {
            codeword = C;
            agree = λ p l e. agree-extract m w c y (placed_of m w c carries) (d ∙ sym (extract-placed good carries size)) p l
                (sym (lost-check p l) ∙ e);
          })
          agrees;
    }

    -- a recovery of the check places is done, and gives the encoded word
    not-refused : recover_refusal_in E.limits m w c (placed_of m w c carries) (check_marks m w c) ≡ 0
    not-refused = checks-accepted (placed_of m w c carries) (placed-length m w c carries)

    pub checks-recovered : (recover_in E m w c (placed_of m w c carries) (check_marks m w c)).number ≡ 0
    unfolding recover_in
    checks-recovered =
        ap (λ r. (unless_before r (recovered E m w c (placed_of m w c carries) (check_marks m w c)) (placed_of m w c carries) (check_marks m w c)).number)
        not-refused
        ∙ ap (λ (o : Outcome). o.number) (recovered-done E S m w c few wide narrow (placed_of m w c carries) (check_marks m w c) symbols agreeing
        checks-low agreeing-agrees)

    pub recovered-checks : (recover_in E m w c (placed_of m w c carries) (check_marks m w c)).word ≡ encoded_in E m w c carries
    unfolding recover_in encoded_in
    recovered-checks = ap (λ r. (unless_before r (recovered E m w c (placed_of m w c carries) (check_marks m w c)) (placed_of m w c carries)
        (check_marks m w c)).word) not-refused

-- the refusals
module _ {L : Limits} (m w c n k : ℕ) where
  pub good-of-encode : encode_refusal_in L m w c n k ≡ 0 → GoodIn L m w c × (n ≡ place_count m w) × (k ≡ data_count m w c)
  unfolding encode_refusal_in
  good-of-encode e = good-of-buffers m w c n k (or_else-zero (sale_refusal_in L m w c) (buffer_refusal_in L m w c n k) e).1

  encode-of-sold : SoldIn L m w c → n ≡ place_count m w → k ≡ data_count m w c → encode_refusal_in L m w c n k ≡ 0
  unfolding encode_refusal_in
  encode-of-sold s e f = simp (refusal-of-sold m w c s, buffers-of-good m w c n k s.good e f)

  encode-retired : GoodIn L m w c → c ≡ 4 → encode_refusal_in L m w c n k ≡ 29
  unfolding encode_refusal_in
  encode-retired g e = simp (retired-of-good m w c g e)

-- Demand 2, for a shape on sale and k symbols of data, with a word of n.
pub encode-demand-two : {E : Edition} (S : Sound E) (m w c : ℕ) (carries word : List ℕ) → SoldIn E.limits m w c → length carries ≡ data_count m w c
    → ((i : ℕ) → get_or carries i 0 < 2 ^ E.bits) → length word ≡ place_count m w → EncodeDemandTwo E m w c carries word
unfolding encode_in encoded_buffer_in
encode-demand-two {E} S m w c carries word s size small long =
    let z = encode-of-sold m w c (length word) (length carries) s long size in
    record {
      done = ap answer_at z;
      encoded = subst (λ r. Encoded E m w c carries (unless_refused r (encoded_in E m w c carries) word)) (sym z) (encoded S s.good carries size small);
    }

-- A good shape with four checks is refused 29, whatever is lent.
pub retired : (E : Edition) (m w c : ℕ) (carries word : List ℕ) → GoodIn E.limits m w c → c ≡ 4 → Retired E m w c carries word
unfolding encode_in encoded_buffer_in
retired E m w c carries word g e =
    let z = encode-retired m w c (length word) (length carries) g e in
    record { refused = ap answer_at z; stays = ap (λ r. unless_refused r (encoded_in E m w c carries) word) z }

-- a call that is accepted, at its end
pub buffer-end : {E : Edition} (S : Sound E) (m w c : ℕ) (carries word end : List ℕ) → encode_refusal_in E.limits m w c (length word) (length carries) ≡ 0
    → ((i : ℕ) → get_or carries i 0 < 2 ^ E.bits) → end ≡ (recover_in E m w c (placed_of m w c carries) (check_marks m w c)).word
    → end ≡ encoded_buffer_in E m w c carries word
unfolding encoded_buffer_in
buffer-end {E} S m w c carries word end accepted small e =
    let G = good-of-encode m w c (length word) (length carries) accepted in
    e ∙ recovered-checks S G.0 carries G.2 small ∙ sym (ap (λ r. unless_refused r (encoded_in E m w c carries) word) accepted)
