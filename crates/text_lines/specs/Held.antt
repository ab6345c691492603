-- A record's arrays hold the values of a line.
use Rattle.std.specs.Prelude.{◌≡◌, List, ℕ, ◌≤◌, length}
use Rattle.text.specs.Records.{line_bytes, line_marks}
use Rattle.text.specs.Padded.{padded}
use Rattle.text_lines.specs.declared.Record.{Record}

-- the count, the bytes and the marks of a line, with 0 in the rest of the arrays
pub record HoldsRecord (r : Record) (line : List ℕ) : Type 0 where
  pub count : r.count ≡ length (line_bytes line)
  pub fits : r.count ≤ 1024
  pub bytes : r.bytes ≡ padded 1024 (line_bytes line)
  pub marks : r.marks ≡ padded 1024 (line_marks line)
