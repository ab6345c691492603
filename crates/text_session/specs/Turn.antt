-- What the program answers to a line.
use Rattle.std.specs.Prelude.{cond, List, ℕ, zero, suc, eqb, length, get_or}
use Rattle.code.specs.Outcome.{Outcome}
use Rattle.shape.specs.Shapes.{byte_limits}
use Rattle.code.specs.Limits.{place_count, data_count, shape_refusal_in}
use Rattle.byte_edition.specs.Edition.{byte_edition}
use Rattle.code_services.specs.Recover.{recover_in}
use Rattle.code_services.specs.Encode.{encoded_in, encode_refusal_in}
use Rattle.text.specs.Records.{line_kind, line_bytes, line_marks}
use Rattle.text.specs.Lines.{ok_line, refused_line, contradictory_line, word_line}

-- An output line and the shape then in force; m 0 stands for no shape yet.
pub record Turn : Type 0 where
  pub output : List ℕ
  pub m : ℕ
  pub w : ℕ
  pub c : ℕ

-- a line, and the shape m, w, c in force
abbrev pub turn : List ℕ → ℕ → ℕ → ℕ → Turn
turn line m w c = record { output = line; m = m; w = w; c = c }

-- a refusal leaves the shape in force
abbrev pub refused_turn : ℕ → ℕ → ℕ → ℕ → Turn
refused_turn r m w c = turn (refused_line r) m w c

-- and so does a 9, which names the group that contradicts
abbrev pub contradictory_turn : ℕ → ℕ → ℕ → ℕ → Turn
contradictory_turn group m w c = turn (contradictory_line group) m w c

-- a turn, unless a refusal, 0 for none, comes before it
abbrev pub turn_unless : ℕ → Turn → ℕ → ℕ → ℕ → Turn
turn_unless zero t m w c = t
turn_unless (suc r) t m w c = refused_turn (suc r) m w c

-- "A shape is answered ok, n, k". "A refused shape leaves the earlier one in force."
unfoldable pub shape_turn : ℕ → ℕ → ℕ → ℕ → ℕ → ℕ → Turn
shape_turn a b d m w c = turn_unless (shape_refusal_in byte_limits a b d) (turn (ok_line (place_count a b) (data_count a b d)) a b d) m w c

-- "data and word by a word line": data are encoded. "A wrong count of bytes, none included: 5." With a retired shape in force: 29, before 5.
unfoldable pub data_turn : List ℕ → ℕ → ℕ → ℕ → Turn
data_turn bytes m w c = turn_unless (encode_refusal_in byte_limits m w c (place_count m w) (length bytes))
    (turn (word_line (encoded_in byte_edition m w c bytes)) m w c) m w c

-- and a word is recovered. "A 9 now carries a group number [..]. The program writes refused, 9 and that number"
abbrev pub recovered_turn : Outcome → ℕ → ℕ → ℕ → Turn
recovered_turn o m w c = cond (eqb o.number 9) (contradictory_turn o.group m w c) (turn_unless o.number (turn (word_line o.word) m w c) m w c)

-- the turn of a word with its marks
unfoldable pub word_turn : List ℕ → List ℕ → ℕ → ℕ → ℕ → Turn
word_turn bytes marks m w c = recovered_turn (recover_in byte_edition m w c bytes marks) m w c

-- the turn of a record of this kind, with its bytes and marks. "in the program 14 and then 15 come before 1 to 9"
unfoldable pub record_turn : ℕ → List ℕ → List ℕ → ℕ → ℕ → ℕ → Turn
record_turn kind bytes marks m w c =
    cond (eqb kind 0) (refused_turn 14 m w c)
    (cond (eqb kind 1) (shape_turn (get_or bytes 0 0) (get_or bytes 1 0) (get_or bytes 2 0) m w c)
    (cond (eqb m 0) (refused_turn 15 m w c)
    (cond (eqb kind 2) (data_turn bytes m w c) (word_turn bytes marks m w c))))

-- "Each input line gives exactly one output line."
unfoldable pub turn_of : List ℕ → ℕ → ℕ → ℕ → Turn
turn_of line m w c = record_turn (line_kind line) (line_bytes line) (line_marks line) m w c
