-- A line of the catalogue as it is read.
use Rattle.std.specs.Prelude.{Bool, cond, Option, Some, None, ◌&&◌, List, ℕ, ◌+◌, eqb, leb, ltb, length, drop}
use Rattle.shape.specs.Shapes.{byte_limits}
use Rattle.code.specs.Limits.{shape_refusal_in}
use Rattle.text.specs.Decimal.{number_of, unreadable}
use Rattle.text.specs.Fields.{same, up_to, end_of, parts_from, joined_by}
use Rattle.catalogue_text.specs.Catalogue.{Entry, gone_name, entry_of}
use Rattle.catalogue_text.specs.CatalogueLaws.{line_good}
use Rattle.catalogue_lines.specs.declared.Line.{Line}
use Rattle.catalogue_lines.specs.declared.Field.{Field}

-- an entry as it is read: the length of its name, its revision and its shape
abbrev pub as_line : Entry → Line
as_line e = record { size = length e.name; revision = e.revision; m = e.m; w = e.w; c = e.c }

-- what a line is read as, if it can be read
unfoldable pub read_line : List ℕ → Option Line
read_line line = cond (line_good line) (Some (as_line (entry_of line))) None

-- the number after the tab at a place, and the end of its field; past the end there is none
unfoldable pub field_after : ℕ → List ℕ → Field
field_after at line = cond (ltb at (length line))
    (record { value = number_of 65536 (up_to 9 (drop (at + 1) line)); end = end_of 9 (at + 1) line })
    (record { value = unreadable 65536; end = at })

-- "revisions 1 to 65,535, shapes good"
unfoldable pub numbers_good : ℕ → ℕ → ℕ → ℕ → Bool
numbers_good revision m w c = leb 1 revision && (leb revision 65535 && eqb (shape_refusal_in byte_limits m w c) 0)

-- these numbers under a name of so many bytes
unfoldable pub line_if : ℕ → ℕ → ℕ → ℕ → ℕ → Option Line
line_if size revision m w c = cond (numbers_good revision m w c) (Some (record { size = size; revision = revision; m = m; w = w; c = c })) None

-- whether the word gone, and nothing else, stands behind the tab at a place
unfoldable pub gone_after : ℕ → List ℕ → Bool
gone_after at line = same (joined_by 9 (parts_from 9 at line)) gone_name

-- a name of so many bytes that is gone
unfoldable pub gone_if : ℕ → ℕ → Option Line
gone_if size revision = cond (leb 1 revision && leb revision 65535) (Some (record { size = size; revision = revision; m = 0; w = 0; c = 0 })) None
