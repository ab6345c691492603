-- The three lines before the blocks, and their refusals. Each line has refusals of its own: 14 for a line that can't be read, is missing or out of order.
use Rattle.std.specs.Prelude.{Bool, cond, List, [], ◌∷◌, ℕ, eqb, ltb, get_or}
use Rattle.code.specs.Refusals.{refuse, ◌or_else◌}
use Rattle.shape.specs.Shapes.{byte_limits}
use Rattle.code.specs.Limits.{shape_refusal_in}
use Rattle.code_services.specs.Marks.{marks_refusal_in}
use Rattle.text.specs.Records.{line_kind, line_bytes}
use Rattle.text_lines.specs.Numbers.{is_numbers}
use Rattle.block_input.specs.declared.ShapeLine.{ShapeLine}
use Rattle.block_input.specs.Lines.{until_line_feed, after_line, settled}
use Rattle.block_input.specs.Length.{length_of}

-- the three numbers of a shape line and its refusal: 14 if it is no such line, then 1 to 4
unfoldable pub shape_line_of : List ℕ → ShapeLine
shape_line_of line =
    cond (eqb (line_kind line) 1)
    (record {
      refusal = shape_refusal_in byte_limits (get_or (line_bytes line) 0 0) (get_or (line_bytes line) 1 0) (get_or (line_bytes line) 2 0);
      m = get_or (line_bytes line) 0 0;
      w = get_or (line_bytes line) 1 0;
      c = get_or (line_bytes line) 2 0;
    })
    (record { refusal = 14; m = 0; w = 0; c = 0 })

-- the word marks
abbrev pub marks_name : List ℕ
marks_name = 109 ∷ 97 ∷ 114 ∷ 107 ∷ 115 ∷ []

-- "a line marks with n fields": 14 if it is no such line, 5 for another count of fields, 6 for a field that is neither 0 nor 1
unfoldable pub marks_line_refusal : ℕ → ℕ → ℕ → List ℕ → ℕ
marks_line_refusal m w c line = cond (is_numbers marks_name line) (marks_refusal_in byte_limits m w c (line_bytes line)) 14

-- "a line length with L": 14 if it is no such line
unfoldable pub length_line_refusal : List ℕ → ℕ
length_line_refusal line = refuse 14 (ltb 65536 (length_of line))

-- The refusal of the lines that are settled, in order, 0 for none. Where the input has ended that is every line, a missing one being empty.
unfoldable pub length_part : Bool → List ℕ → ℕ
length_part ended rest = cond (settled ended rest) (length_line_refusal (until_line_feed rest)) 0

-- of the marks line and the next
unfoldable pub marks_part : Bool → ℕ → ℕ → ℕ → List ℕ → ℕ
marks_part ended m w c rest = cond (settled ended rest) (marks_line_refusal m w c (until_line_feed rest) or_else length_part ended (after_line rest)) 0

-- of all three
unfoldable pub head_refusal : Bool → List ℕ → ℕ
head_refusal ended input =
    cond (settled ended input)
    ((shape_line_of (until_line_feed input)).refusal
    or_else marks_part ended (shape_line_of (until_line_feed input)).m (shape_line_of (until_line_feed input)).w (shape_line_of (until_line_feed input)).c
    (after_line input))
    0

-- the shape of an input
abbrev pub input_shape : List ℕ → ShapeLine
input_shape input = shape_line_of (until_line_feed input)

-- which of the lines from the marks line on is refused first: 2 for that one, 3 if it is not refused
unfoldable pub later_line : ℕ → ℕ → ℕ → List ℕ → ℕ
later_line m w c rest = cond (eqb (marks_line_refusal m w c (until_line_feed rest)) 0) 3 2

-- and of all three: 1 for the shape line
unfoldable pub line_refused : List ℕ → ℕ
line_refused input =
    cond (eqb (input_shape input).refusal 0)
    (later_line (input_shape input).m (input_shape input).w (input_shape input).c (after_line input)) 1

-- its marks
abbrev pub input_marks : List ℕ → List ℕ
input_marks input = line_bytes (until_line_feed (after_line input))

-- L
abbrev pub input_length : List ℕ → ℕ
input_length input = length_of (until_line_feed (after_line (after_line input)))

-- "then the blocks as raw bytes to the end of input"
abbrev pub input_blocks : List ℕ → List ℕ
input_blocks input = after_line (after_line (after_line input))
