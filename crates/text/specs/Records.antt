-- Input lines as records. "Records: shape with m, w, c; data with bytes; word with bytes, where - is a lost place."
use Rattle.std.specs.Prelude.{Bool, true, cond, not, ◌&&◌, ◌||◌, List, [], ◌∷◌, map, ℕ, ◌%◌, ◌/◌, eqb, leb, ltb, length, get_or, drop}
use Rattle.text.specs.Fields.{fields, same, meaning, parts_from}

-- the three names
abbrev pub shape_name : List ℕ
shape_name = 115 ∷ 104 ∷ 97 ∷ 112 ∷ 101 ∷ []

-- data
abbrev pub data_name : List ℕ
data_name = 100 ∷ 97 ∷ 116 ∷ 97 ∷ []

-- word
abbrev pub word_name : List ℕ
word_name = 119 ∷ 111 ∷ 114 ∷ 100 ∷ []

-- the kind of a record by its name: 1 shape, 2 data, 3 word; 0 for other names
unfoldable pub name_kind : List ℕ → ℕ
name_kind name = cond (same name shape_name) 1 (cond (same name data_name) 2 (cond (same name word_name) 3 0))

-- the first field, and what each of the others means
unfoldable pub line_name : List ℕ → List ℕ
line_name line = get_or (fields line) 0 []

-- what the fields after the name mean
unfoldable pub contents : List ℕ → List ℕ
contents line = map meaning (drop 1 (fields line))

-- whether all are below a bound
unfoldable pub all_under : ℕ → List ℕ → Bool
all_under bound [] = true
all_under bound (x ∷ xs) = ltb x bound && all_under bound xs

-- the bound on what a field of this kind of record can mean: a lost place stands in a word alone
abbrev pub bound_of : ℕ → ℕ
bound_of kind = cond (eqb kind 3) 257 256

-- "Longer or empty lines, other names, bad or empty fields, a - in data, or a shape without exactly three numbers: 14."
-- The kind of a line's record, or 0 for a line that can't be read.
abbrev pub kind_if : List ℕ → ℕ → List ℕ → ℕ
kind_if line kind values = cond (leb (length line) 1024 && all_under (bound_of kind) values && (not (eqb kind 1) || eqb (length values) 3)) kind 0

-- the kind of a line, 0 where it can't be read
unfoldable pub line_kind : List ℕ → ℕ
line_kind line = kind_if line (name_kind (line_name line)) (contents line)

-- the bytes of a record, with 0 in a lost place, and its marks
unfoldable pub line_bytes : List ℕ → List ℕ
line_bytes line = map (λ v. v % 256) (contents line)

-- and their marks, 1 for a lost place
unfoldable pub line_marks : List ℕ → List ℕ
line_marks line = map (λ v. v / 256) (contents line)

-- what the fields mean that stand after place i, which is a tab or the line's end
unfoldable pub values_from : ℕ → List ℕ → List ℕ
values_from i line = map meaning (parts_from 9 i line)
