-- An answered word, fed back with the same shape in force, is answered by itself.
use Rattle.std.specs.Prelude.{◌≡◌, List, [], ◌∷◌, ◌++◌, ℕ, zero, suc, ◌%◌, ◌<◌, length, get_or, take}
use Rattle.std.proofs.Math.Path.{refl}
use Rattle.std.proofs.Common.{sym, ap, ◌∙◌, mod-lt, arith, get_or-take}
use Rattle.std.proofs.lemmas.List.{append_cancel_right}
use borrow.Author.Tests.{ne_eqb}
use Rattle.std.proofs.Math.ListN.{get_or-map, get_or-append}
use Rattle.code.specs.Limits.{place_count, data_count, GoodIn}
use Rattle.code.specs.LimitsLaws.{places-most}
use Rattle.byte_edition.specs.Edition.{byte_edition}
use Rattle.byte_edition.specs.EditionLaws.{bytes-sound, bytes-few}
use Rattle.code.specs.Word.{Codeword}
use Rattle.code.specs.Outcome.{Outcome}
use Rattle.code.specs.Recovery.{recovered}
use Rattle.code.specs.RecoveryLaws.{done-single}
use Rattle.shape.specs.Shapes.{byte_limits}
use Rattle.text.specs.Fields.{to_tab}
use Rattle.code_services.specs.Recover.{unless_before, recover_in, recover_refusal_in}
use Rattle.code_services.specs.AttemptLaws.{accepted}
use Rattle.code_services.specs.Encode.{encoded_in, encode_refusal_in}
use Rattle.code_services.specs.EncodeLaws.{good-of-encode, encoded}
use Rattle.text.specs.Records.{word_name, contents, line_kind, line_bytes, line_marks}
use Rattle.text.specs.RecordLaws.{name-first, line-values, word-named}
use Rattle.text.specs.FieldLaws.{take_part}
use Rattle.text.specs.Lines.{cells, line_with, ok_line, refused_line, contradictory_line, word_line}
use Rattle.text.specs.ReadBackLaws.{line-parts, word_back, bytes_back, marks-back}
use Rattle.text_session.specs.Turn.{Turn, turn, word_turn, record_turn, turn_of}
use Rattle.text_stream.specs.NoneLostLaws.{codeword-stays}
use Rattle.text_stream.specs.OutputLinesLaws.{turn-cases}

-- ---- nothing lost
module _ {m w c : ℕ} (g : GoodIn byte_limits m w c) (word : List ℕ) (C : Codeword byte_edition m w c word) where
  -- the word line of a codeword
  pub codeword-again : turn_of (word_name ++ cells word) m w c ≡ turn (word_line word) m w c
  unfolding turn_of record_turn word_turn
  codeword-again =
      let l = places-most g in
      let h = C.symbols.each in
      rw (word_back word h (omega arith), bytes_back word h, marks-back word h, ne_eqb m 0 (omega arith), codeword-stays bytes-sound g word C.symbols C)

-- ---- every word that is answered is a codeword of a good shape
line-bytes : (line : List ℕ) (i : ℕ) → get_or (line_bytes line) i 0 < 256
unfolding line_bytes
line-bytes line i = rw (get_or-map (λ v. v % 256) (contents line) i 0) (mod-lt (get_or (contents line) i 0) (omega arith))

module _ (line : List ℕ) (m w c : ℕ) where
  encoded-word : encode_refusal_in byte_limits m w c (place_count m w) (length (line_bytes line)) ≡ 0
      → GoodIn byte_limits m w c × Codeword byte_edition m w c (encoded_in byte_edition m w c (line_bytes line))
  encoded-word z =
      let g = good-of-encode m w c (place_count m w) (length (line_bytes line)) z in
      (g.0, (encoded bytes-sound g.0 (line_bytes line) g.2 (line-bytes line)).codeword)

  recovered-word : (recover_in byte_edition m w c (line_bytes line) (line_marks line)).number ≡ 0
      → GoodIn byte_limits m w c × Codeword byte_edition m w c (recover_in byte_edition m w c (line_bytes line) (line_marks line)).word
  unfolding recover_in
  recovered-word = go (recover_refusal_in byte_limits m w c (line_bytes line) (line_marks line)) refl
    where
      out : Outcome
      out = recovered byte_edition m w c (line_bytes line) (line_marks line)

      go : (r : ℕ) → r ≡ recover_refusal_in byte_limits m w c (line_bytes line) (line_marks line)
          → (unless_before r out (line_bytes line) (line_marks line)).number ≡ 0
          → GoodIn byte_limits m w c × Codeword byte_edition m w c (unless_before r out (line_bytes line) (line_marks line)).word
      go zero e n =
          let A = accepted m w c (line_bytes line) (line_marks line) 0 e refl in
          let g = A.good in (
            g,
            (done-single byte_edition bytes-sound m w c (bytes-few g.few) (omega arith) g.narrow (line_bytes line) (line_marks line)
                (record { size = A.word_size; each = line-bytes line }) n).agrees.codeword,
          )
      go (suc r) e n = absurd (omega arith)

-- ---- a line that is read as a word starts with the letter w
starts : (body output : List ℕ) → line_kind body ≡ 3 → output ≡ body ++ (10 ∷ []) → get_or output 0 0 ≡ 119
starts body output k e =
    let n = word-named body k in
    let v = line-values body in
    let l = ap length n in
    let t : take (length (to_tab body)) body ≡ word_name = take_part 9 body ∙ sym (name-first body) ∙ n in
    let z : length (to_tab body) ≡ 4 = ap length (sym (name-first body) ∙ n) in
    ap (λ xs. get_or xs 0 0) e ∙ get_or-append body (10 ∷ []) 0 0 (omega arith)
    ∙ sym (get_or-take (length (to_tab body)) body 0 0 (omega arith)) ∙ ap (λ xs. get_or xs 0 0) t

-- "data and word by a word line": an output line that is a word, fed back without its line feed
abbrev Back : ℕ → ℕ → ℕ → Turn → Type 0
Back m w c t = (body : List ℕ) → t.output ≡ body ++ (10 ∷ []) → line_kind body ≡ 3 → turn_of body m w c ≡ t

word-back-again : {m w c : ℕ} (word : List ℕ) → GoodIn byte_limits m w c × Codeword byte_edition m w c word → Back m w c (turn (word_line word) m w c)
unfolding word_line
word-back-again {m} {w} {c} word p body e k =
    let b : body ≡ word_name ++ cells word = append_cancel_right body (word_name ++ cells word) (10 ∷ []) (sym e ∙ line-parts 2 word_name word) in
    ap (λ l. turn_of l m w c) b ∙ codeword-again p.0 word p.1

pub word-again : (line : List ℕ) (m w c : ℕ) → Back m w c (turn_of line m w c)
unfolding ok_line refused_line contradictory_line line_with
word-again line m w c =
    turn-cases (Back m w c) line m w c
    (λ r _ _ body e k. let z : ◌≡◌ {A = ℕ} 114 119 = starts body (refused_line r) k e in absurd (omega arith))
    (λ _ body e k. let z : ◌≡◌ {A = ℕ} 114 119 = starts body (contradictory_line _) k e in absurd (omega arith))
    (λ a b d body e k. let z : ◌≡◌ {A = ℕ} 111 119 = starts body (ok_line (place_count a b) (data_count a b d)) k e in absurd (omega arith))
    (λ z. word-back-again _ (encoded-word line m w c z))
    (λ z. word-back-again _ (recovered-word line m w c z))
