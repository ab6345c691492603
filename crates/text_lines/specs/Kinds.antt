-- The numbers of kinds of records, 0 for none.
use Rattle.std.specs.Prelude.{ℕ, Option, None, Some}
use Rattle.text_lines.specs.declared.Kind.{Kind}
use Rattle.text_lines.specs.declared.Record.{Record}

-- 1 shape, 2 data, 3 word
abbrev pub kind_number : Kind → ℕ
kind_number Kind.Shape = 1
kind_number Kind.Data = 2
kind_number Kind.Word = 3

-- the kind of a name, 0 for other names
abbrev pub kind_or_none : Option Kind → ℕ
kind_or_none None = 0
kind_or_none (Some kind) = kind_number kind

-- the kind of a line's record, 0 for a line that can't be read
abbrev pub record_number : Option Record → ℕ
record_number None = 0
record_number (Some read) = kind_number read.kind
