-- Laws: "Each input line gives exactly one output line.": what an answer can be, and the lines of a session's output.
use Rattle.std.specs.Prelude.{◌≡◌, refl, Bool, true, false, cond, not, ◌⊎◌, List, [], ◌∷◌, ◌++◌, ℕ, zero, suc, ◌≤◌, T, eqb, length, get_or}
use Rattle.std.proofs.Common.{ap, ◌∙◌, inl, inr, ⊎_elim, append_assoc, arith, eqb-true}
use Rattle.std.proofs.lemmas.Bool.{eqb-false}
use Rattle.code.specs.Outcome.{Outcome}
use Rattle.code.specs.Refusals.{refuse, ◌or_else◌}
use Rattle.code.specs.RefusalsLaws.{or_else-most}
use Rattle.shape.specs.Shapes.{byte_limits}
use Rattle.shape.specs.Laws.{shape-most, sale-numbers, word-most}
use Rattle.code.specs.Limits.{place_count, data_count, shape_refusal_in, sale_refusal_in, word_refusal_in, buffer_refusal_in}
use Rattle.byte_edition.specs.Edition.{byte_edition}
use Rattle.text.specs.Decimal.{without}
use Rattle.code_services.specs.Recover.{recover_in}
use Rattle.code_services.specs.Encode.{encode_refusal_in, encoded_in}
use Rattle.text.specs.Records.{word_name, line_kind, line_bytes, line_marks}
use Rattle.text.specs.Lines.{cells, line_of, ok_line, refused_line, contradictory_line, word_line}
use Rattle.text.specs.Input.{lines}
use Rattle.text.specs.InputLaws.{lines-feed}
use Rattle.text.specs.ReadBackLaws.{line-parts, one_line}
use Rattle.text_session.specs.Turn.{Turn, turn, turn_unless, refused_turn, contradictory_turn, shape_turn, data_turn, word_turn, record_turn, turn_of}
use Rattle.text_session.specs.ContradictionLaws.{recovered-most}
use Rattle.text_stream.specs.Session.{line_answers, joined_lines, session_of}
use Rattle.text_stream.specs.OutputLines.{IsLine}

-- ---- every turn is a refusal other than 9, a 9 with its group, the figures of a shape, or a word: of encoded data, or a recovered one
unless-case : (P : Turn → Type 0) (x : ℕ) (t : Turn) (m w c : ℕ) → x ≤ 29 → ¬ (x ≡ 9) → ((r : ℕ) → r ≤ 29 → ¬ (r ≡ 9) → P (refused_turn r m w c))
    → (x ≡ 0 → P t) → P (turn_unless x t m w c)
unless-case P zero t m w c l n f p = p refl
unless-case P (suc r) t m w c l n f p = f (suc r) l n

buffer-most : (m w c n k : ℕ) → buffer_refusal_in byte_limits m w c n k ≤ 5
unfolding buffer_refusal_in
buffer-most m w c n k = or_else-most 5 (word_refusal_in byte_limits m w c n) _ (word-most m w c n) (go (not (eqb k (data_count m w c))))
  where
    go : (b : Bool) → refuse 5 b ≤ 5
    go true = omega arith
    go false = omega arith

-- the numbers that an encoding is refused with
encode-numbers : (m w c n k : ℕ) → (encode_refusal_in byte_limits m w c n k ≤ 5) ⊎ (encode_refusal_in byte_limits m w c n k ≡ 29)
unfolding encode_refusal_in
encode-numbers m w c n k = go (sale_refusal_in byte_limits m w c) (sale-numbers m w c)
  where
    go : (r : ℕ) → (r ≤ 4) ⊎ (r ≡ 29) → ((r or_else buffer_refusal_in byte_limits m w c n k) ≤ 5) ⊎ ((r or_else buffer_refusal_in byte_limits m w c n k) ≡ 29)
    go zero _ = inl (buffer-most m w c n k)
    go (suc r) (inl l) = inl (omega arith)
    go (suc r) (inr e) = inr e

module _ (P : Turn → Type 0) (line : List ℕ) (m w c : ℕ)
    (no : (r : ℕ) → r ≤ 29 → ¬ (r ≡ 9) → P (refused_turn r m w c))
    (nine : (recover_in byte_edition m w c (line_bytes line) (line_marks line)).number ≡ 9
    → P (contradictory_turn (recover_in byte_edition m w c (line_bytes line) (line_marks line)).group m w c))
    (ok : (a b d : ℕ) → P (turn (ok_line (place_count a b) (data_count a b d)) a b d))
    (encodes : encode_refusal_in byte_limits m w c (place_count m w) (length (line_bytes line)) ≡ 0
    → P (turn (word_line (encoded_in byte_edition m w c (line_bytes line))) m w c))
    (recovers : (recover_in byte_edition m w c (line_bytes line) (line_marks line)).number ≡ 0
    → P (turn (word_line (recover_in byte_edition m w c (line_bytes line) (line_marks line)).word) m w c)) where
  pub turn-cases : P (turn_of line m w c)
  unfolding turn_of record_turn shape_turn data_turn word_turn
  turn-cases = go (eqb (line_kind line) 0) (eqb (line_kind line) 1) (eqb m 0) (eqb (line_kind line) 2)
    where
      shapes : (a b d : ℕ) → P (shape_turn a b d m w c)
      shapes a b d =
          let l = shape-most a b d in
          unless-case P (shape_refusal_in byte_limits a b d) _ m w c (omega arith) (λ z. omega arith) no (λ _. ok a b d)

      out : Outcome
      out = recover_in byte_edition m w c (line_bytes line) (line_marks line)

      mends : (b : Bool) → eqb out.number 9 ≡ b
          → P (cond b (contradictory_turn out.group m w c) (turn_unless out.number (turn (word_line out.word) m w c) m w c))
      mends true e = nine (eqb-true out.number 9 e)
      mends false e =
          let l = recovered-most m w c (line_bytes line) (line_marks line) in
          unless-case P out.number _ m w c (omega arith) (eqb-false out.number 9 e) no recovers

      go : (p q r s : Bool)
          → P (cond p (refused_turn 14 m w c) (cond q (shape_turn (get_or (line_bytes line) 0 0) (get_or (line_bytes line) 1 0) (get_or (line_bytes line) 2 0) m w c)
          (cond r (refused_turn 15 m w c) (cond s (data_turn (line_bytes line) m w c) (word_turn (line_bytes line) (line_marks line) m w c)))))
      go true q r s = no 14 (omega arith) (λ z. omega arith)
      go false true r s = shapes (get_or (line_bytes line) 0 0) (get_or (line_bytes line) 1 0) (get_or (line_bytes line) 2 0)
      go false false true s = no 15 (omega arith) (λ z. omega arith)
      go false false false true =
          ⊎_elim
          (λ l. unless-case P (encode_refusal_in byte_limits m w c (place_count m w) (length (line_bytes line))) _ m w c (omega arith) (λ z. omega arith) no encodes)
          (λ l. unless-case P (encode_refusal_in byte_limits m w c (place_count m w) (length (line_bytes line))) _ m w c (omega arith) (λ z. omega arith) no encodes)
          (encode-numbers m w c (place_count m w) (length (line_bytes line)))
      go false false false false = mends (eqb out.number 9) refl

printed : (name numbers : List ℕ) → T (without 10 name) → IsLine (line_of name numbers)
printed name numbers t = record { body = name ++ cells numbers; clean = one_line 2 name numbers t; ends = line-parts 2 name numbers }

pub one-feed : (line : List ℕ) (m w c : ℕ) → IsLine (turn_of line m w c).output
unfolding ok_line refused_line contradictory_line word_line without
one-feed line m w c =
    turn-cases (λ t. IsLine t.output) line m w c (λ r _ _. printed _ (r ∷ []) tt) (λ _. printed _ _ tt)
    (λ a b d. printed _ (place_count a b ∷ data_count a b d ∷ []) tt) (λ _. printed word_name _ tt) (λ _. printed word_name _ tt)

-- ---- so the output has as many lines as the input
each-one : (ls : List (List ℕ)) (m w c : ℕ) → length (lines (joined_lines (line_answers ls m w c))) ≡ length ls
unfolding lines joined_lines line_answers
each-one [] m w c = refl
each-one (line ∷ rest) m w c =
    let t = turn_of line m w c in
    let o = one-feed line m w c in
    let after : List ℕ = joined_lines (line_answers rest t.m t.w t.c) in
    ap (λ l. length (lines (l ++ after))) o.ends ∙ ap (λ l. length (lines l)) (append_assoc o.body (10 ∷ []) after)
    ∙ ap length (lines-feed o.body after o.clean) ∙ ap suc (each-one rest t.m t.w t.c)

pub one-line-each : (input : List ℕ) → length (lines (session_of input)) ≡ length (lines input)
unfolding session_of
one-line-each input = each-one (lines input) 0 0 0
