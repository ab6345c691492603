-- Laws: "The program writes refused, 9 and that number": two lines with the shape m 2, w 3, c 1 in force, shown of the definition.
use Rattle.std.specs.Prelude.{◌≡◌, [], ◌∷◌}
use Rattle.std.proofs.Common.{ap}
use Rattle.text.specs.Decimal.{digits_of, decimal, digits_after, number_of}
use Rattle.text.specs.Fields.{parts, fields, same, meaning}
use Rattle.text.specs.Records.{name_kind, line_name, contents, all_under, line_kind, line_bytes, line_marks}
use Rattle.text.specs.Lines.{cells_of, cells, line_with, line_of, contradictory_line}
use Rattle.text_session.specs.Turn.{turn, recovered_turn, word_turn, record_turn, turn_of}
use Rattle.theorems.specs.WordSumsLaws.{last-outcome, across-outcome}
use Rattle.theorems.specs.NineLines.{last_line, across_line}

-- refused⇥9⇥1 with its line feed: the bytes of the second group break its equation
pub last_line_lem : turn_of last_line 2 3 1 ≡ turn (114 ∷ 101 ∷ 102 ∷ 117 ∷ 115 ∷ 101 ∷ 100 ∷ 9 ∷ 57 ∷ 9 ∷ 49 ∷ 10 ∷ []) 2 3 1
unfolding turn_of record_turn line_kind name_kind line_name contents parts same meaning number_of digits_after all_under line_bytes line_marks word_turn
    contradictory_line line_with cells_of digits_of
last_line_lem = ap (λ o. recovered_turn o 2 3 1) last-outcome

-- refused⇥9⇥2 with its line feed: each group is sound, and the number is m
pub across-line : turn_of across_line 2 3 1 ≡ turn (114 ∷ 101 ∷ 102 ∷ 117 ∷ 115 ∷ 101 ∷ 100 ∷ 9 ∷ 57 ∷ 9 ∷ 50 ∷ 10 ∷ []) 2 3 1
unfolding turn_of record_turn line_kind name_kind line_name contents parts same meaning number_of digits_after all_under line_bytes line_marks word_turn
    contradictory_line line_with cells_of digits_of
across-line = ap (λ o. recovered_turn o 2 3 1) across-outcome
