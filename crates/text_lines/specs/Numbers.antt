-- A line of one name whose fields are numbers.
use Rattle.std.specs.Prelude.{◌≡◌, Bool, ◌&&◌, List, ℕ, ◌≤◌, leb, length}
use Rattle.text.specs.Fields.{same}
use Rattle.text.specs.Records.{line_name, contents, all_under, line_bytes}
use Rattle.text.specs.Padded.{padded}
use Rattle.text_lines.specs.declared.Numbers.{Numbers}

-- of at most 1,024 bytes, with this name, each field a number 0 to 255
unfoldable pub is_numbers : List ℕ → List ℕ → Bool
is_numbers name line = leb (length line) 1024 && (same (line_name line) name && all_under 256 (contents line))

-- the count and the numbers of a line, with 0 in the rest of the array
pub record HoldsNumbers (r : Numbers) (line : List ℕ) : Type 0 where
  pub count : r.count ≡ length (line_bytes line)
  pub fits : r.count ≤ 1024
  pub bytes : r.bytes ≡ padded 1024 (line_bytes line)
