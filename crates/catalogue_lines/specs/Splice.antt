-- A line in the place of some bytes of a text.
use Rattle.std.specs.Prelude.{◌≡◌, List, ◌++◌, ℕ, ◌+◌, ◌-◌, ◌≤◌, length, take, drop}
use Rattle.text.specs.Padded.{padded}
use Rattle.text.specs.Written.{written}
use Rattle.catalogue_lines.specs.declared.Row.{Row}

-- the bytes from one place to another lie in a text of so many bytes, and the buffer has room for a line in their place
pub record SpliceFits (buffer : List ℕ) (size from to : ℕ) (line : List ℕ) : Type 0 where
  pub order : from ≤ to
  pub inside : to ≤ size
  pub held : size ≤ length buffer
  pub room : from + length line + (size - to) ≤ length buffer

-- the line there, and behind it what stood behind those bytes; what the buffer holds past the new text stays
unfoldable pub spliced_in : List ℕ → ℕ → ℕ → ℕ → List ℕ → List ℕ
spliced_in buffer size from to line = written buffer from (line ++ take (size - to) (drop to buffer))

-- a line at the start of a row of bytes, with zeros after it
pub record HoldsRow (row : Row) (line : List ℕ) : Type 0 where
  pub size : row.length ≡ length line
  pub most : row.length ≤ 48
  pub contents : row.bytes ≡ padded 48 line
