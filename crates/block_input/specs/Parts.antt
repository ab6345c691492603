-- What the readers of the three lines give.
use Rattle.std.specs.Prelude.{◌≡◌, Bool, true, List, ℕ, ◌≤◌, length, take, drop}
use Rattle.text.specs.Records.{line_bytes}
use Rattle.block_input.specs.declared.MarksLine.{MarksLine}
use Rattle.block_input.specs.declared.LengthPart.{LengthPart}
use Rattle.block_input.specs.declared.MarksPart.{MarksPart}
use Rattle.block_input.specs.declared.Head.{Head}
use Rattle.block_input.specs.Lines.{until_line_feed, after_line}
use Rattle.block_input.specs.Length.{length_of}
use Rattle.block_input.specs.Head.{marks_line_refusal, length_part, marks_part, head_refusal, input_shape, input_marks, input_length, input_blocks}

-- a list at the start of a row
pub record Front (row : List ℕ) (count : ℕ) (xs : List ℕ) : Type 0 where
  pub fits : count ≤ length row
  pub front : take count row ≡ xs

-- a list at the end of another, from a place on
pub record Back (row : List ℕ) (start : ℕ) (xs : List ℕ) : Type 0 where
  pub fits : start ≤ length row
  pub back : drop start row ≡ xs

-- a marks line: its refusal, and its marks where there is none
pub record ReadMarks (line : List ℕ) (m w c : ℕ) (r : MarksLine) : Type 0 where
  pub refusal : r.refusal ≡ marks_line_refusal m w c line
  pub marks : r.refusal ≡ 0 → Front r.marks r.count (line_bytes line)

-- from the length line on
pub record ReadsLength (ended : Bool) (rest : List ℕ) (r : LengthPart) : Type 0 where
  pub refusal : r.refusal ≡ length_part ended rest
  pub size : r.size ≡ length_of (until_line_feed rest)
  pub blocks : Back rest r.start (after_line rest)

-- from the marks line on; the marks where the input has ended and nothing is refused
pub record ReadsMarks (ended : Bool) (m w c : ℕ) (rest : List ℕ) (r : MarksPart) : Type 0 where
  pub refusal : r.refusal ≡ marks_part ended m w c rest
  pub marks : ended ≡ true → r.refusal ≡ 0 → Front r.marks r.count (line_bytes (until_line_feed rest))
  pub size : r.size ≡ length_of (until_line_feed (after_line rest))
  pub blocks : Back rest r.start (after_line (after_line rest))

-- the three lines
pub record ReadsHead (ended : Bool) (input : List ℕ) (r : Head) : Type 0 where
  pub refusal : r.refusal ≡ head_refusal ended input
  pub m : r.m ≡ (input_shape input).m
  pub w : r.w ≡ (input_shape input).w
  pub c : r.c ≡ (input_shape input).c
  pub marks : ended ≡ true → r.refusal ≡ 0 → Front r.marks r.count (input_marks input)
  pub size : r.size ≡ input_length input
  pub blocks : Back input r.start (input_blocks input)
