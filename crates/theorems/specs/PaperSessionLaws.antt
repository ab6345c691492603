-- Laws: The whole session of the requirements, shown of the definition.
use Rattle.std.specs.Prelude.{◌≡◌, refl, List, [], ◌∷◌, ℕ}
use Rattle.std.proofs.Common.{ap, ◌∙◌}
use Rattle.code.specs.Limits.{shape_refusal_in, retired_refusal, sale_refusal_in, word_refusal_in, buffer_refusal_in}
use Rattle.code_services.specs.Encode.{encode_refusal_in}
use Rattle.text.specs.Decimal.{digits_of, decimal, digits_after, number_of}
use Rattle.text.specs.Fields.{parts, fields, same, meaning}
use Rattle.text.specs.Records.{name_kind, line_name, contents, all_under, line_kind, line_bytes, line_marks}
use Rattle.text.specs.Lines.{cells_of, cells, line_with, line_of, ok_line, refused_line, word_line}
use Rattle.text.specs.Input.{lines}
use Rattle.text_session.specs.Turn.{turn, refused_turn, recovered_turn, shape_turn, data_turn, word_turn, record_turn, turn_of}
use Rattle.text_stream.specs.Session.{line_answers, joined_lines, session_of}
use Rattle.theorems.specs.WordSumsLaws.{encoded-second, two-lost, five-lost-again}
use Rattle.theorems.specs.PaperSession.{paper_input, paper_output}

abbrev first : List ℕ
first = 115 ∷ 104 ∷ 97 ∷ 112 ∷ 101 ∷ 9 ∷ 50 ∷ 9 ∷ 51 ∷ 9 ∷ 49 ∷ []

abbrev second : List ℕ
second = 100 ∷ 97 ∷ 116 ∷ 97 ∷ 9 ∷ 49 ∷ 9 ∷ 49 ∷ []

abbrev third : List ℕ
third = 119 ∷ 111 ∷ 114 ∷ 100 ∷ 9 ∷ 49 ∷ 9 ∷ 45 ∷ 9 ∷ 48 ∷ 9 ∷ 55 ∷ 56 ∷ 9 ∷ 45 ∷ 9 ∷ 49 ∷ 50 ∷ 56 ∷ []

abbrev fourth : List ℕ
fourth = 119 ∷ 111 ∷ 114 ∷ 100 ∷ 9 ∷ 45 ∷ 9 ∷ 45 ∷ 9 ∷ 45 ∷ 9 ∷ 45 ∷ 9 ∷ 45 ∷ 9 ∷ 49 ∷ 50 ∷ 56 ∷ []

-- ---- the turn of each line
first-turn : turn_of first 0 0 0 ≡ turn (ok_line 6 2) 2 3 1
unfolding turn_of record_turn line_kind name_kind line_name contents parts same meaning number_of digits_after all_under line_bytes line_marks shape_turn shape_refusal_in
first-turn = refl

second-turn : turn_of second 2 3 1 ≡ turn (word_line (1 ∷ 1 ∷ 0 ∷ 78 ∷ 206 ∷ 128 ∷ [])) 2 3 1
unfolding turn_of record_turn line_kind name_kind line_name contents parts same meaning number_of digits_after all_under line_bytes line_marks data_turn encode_refusal_in
    sale_refusal_in retired_refusal buffer_refusal_in word_refusal_in shape_refusal_in
second-turn = ap (λ word. turn (word_line word) 2 3 1) encoded-second

third-turn : turn_of third 2 3 1 ≡ turn (word_line (1 ∷ 1 ∷ 0 ∷ 78 ∷ 206 ∷ 128 ∷ [])) 2 3 1
unfolding turn_of record_turn line_kind name_kind line_name contents parts same meaning number_of digits_after all_under line_bytes line_marks word_turn
third-turn = ap (λ o. recovered_turn o 2 3 1) two-lost

fourth-turn : turn_of fourth 2 3 1 ≡ refused_turn 8 2 3 1
unfolding turn_of record_turn line_kind name_kind line_name contents parts same meaning number_of digits_after all_under line_bytes line_marks word_turn
fourth-turn = ap (λ o. recovered_turn o 2 3 1) five-lost-again

-- ---- and the whole
paper-lines : lines paper_input ≡ first ∷ second ∷ third ∷ fourth ∷ []
unfolding lines
paper-lines = refl

paper-answers : line_answers (first ∷ second ∷ third ∷ fourth ∷ []) 0 0 0
    ≡ ok_line 6 2 ∷ word_line (1 ∷ 1 ∷ 0 ∷ 78 ∷ 206 ∷ 128 ∷ []) ∷ word_line (1 ∷ 1 ∷ 0 ∷ 78 ∷ 206 ∷ 128 ∷ []) ∷ refused_line 8 ∷ []
unfolding line_answers
paper-answers = rw (first-turn, second-turn, third-turn, fourth-turn)

pub paper-session : session_of paper_input ≡ paper_output
unfolding session_of joined_lines ok_line word_line refused_line line_with cells_of digits_of
paper-session = ap (λ ls. joined_lines (line_answers ls 0 0 0)) paper-lines ∙ ap joined_lines paper-answers
