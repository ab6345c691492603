-- What a line that is ready for output is.
use Rattle.std.specs.Prelude.{◌≡◌, List, ℕ, ◌≤◌, length}
use Rattle.text.specs.Padded.{padded}
use Rattle.text_lines.specs.declared.Line.{Line}

-- the line stands at the start of the row of bytes, with zeros after it
pub record HoldsLine (ready : Line) (line : List ℕ) : Type 0 where
  pub size : ready.length ≡ length line
  pub most : ready.length ≤ 1024
  pub contents : ready.bytes ≡ padded 1024 line
