-- The catalogue of named shapes: the list with its floor, its text, and the reading of a text.
use Rattle.std.specs.Prelude.{Bool, true, cond, not, ◌&&◌, List, [], ◌∷◌, ◌++◌, map, ℕ, eqb, leb, get_or, drop}
use Rattle.shape.specs.Shapes.{byte_limits}
use Rattle.code.specs.Limits.{shape_refusal_in}
use Rattle.text.specs.Decimal.{number_of}
use Rattle.text.specs.Fields.{parts, fields, same, joined_by}
use Rattle.text.specs.Records.{line_name}
use Rattle.text.specs.Lines.{cells_of, line_with}
use Rattle.catalogue_text.specs.Names.{good_name, before}

-- "name, revision, m, w, c"; a name that is gone has 0 for m, w and c
pub record Entry : Type 0 where
  pub name : List ℕ
  pub revision : ℕ
  pub m : ℕ
  pub w : ℕ
  pub c : ℕ

-- whether it is gone; no good shape has m 0
abbrev pub is_gone : Entry → Bool
is_gone e = eqb e.m 0

-- "shapes good"
unfoldable pub good_shape : ℕ → ℕ → ℕ → Bool
good_shape m w c = eqb (shape_refusal_in byte_limits m w c) 0

-- or zeros, of a name that is gone
unfoldable pub shape_or_gone : ℕ → ℕ → ℕ → Bool
shape_or_gone m w c = cond (eqb m 0) (eqb w 0 && eqb c 0) (good_shape m w c)

-- a good name, "revisions 1 to 65,535", and a good shape or none
unfoldable pub good_entry : Entry → Bool
good_entry e = good_name e.name && (leb 1 e.revision && (leb e.revision 65535 && shape_or_gone e.m e.w e.c))

-- "sorted by name in byte order, no name twice": each name stands after the one before it
unfoldable pub good_from : List ℕ → List Entry → Bool
good_from last [] = true
good_from last (e ∷ list) = before last e.name && (good_entry e && good_from e.name list)

-- a good list; the first name stands after none
abbrev pub good_list : List Entry → Bool
good_list = good_from []

-- whether no name of a list is gone
unfoldable pub none_gone : List Entry → Bool
none_gone [] = true
none_gone (e ∷ list) = not (is_gone e) && none_gone list

-- a catalogue: the version of its text, "a floor, the largest revision ever dropped", and the list
pub record Catalogue : Type 0 where
  pub version : ℕ
  pub floor : ℕ
  pub list : List Entry

-- "Text version 1 is read as floor 0 and no gone lines"; in version 2 the floor is "65,535 at most"
unfoldable pub good_version : ℕ → ℕ → List Entry → Bool
good_version version floor list = cond (eqb version 1) (eqb floor 0 && none_gone list) (eqb version 2 && leb floor 65535)

-- a good catalogue
unfoldable pub good_catalogue : Catalogue → Bool
good_catalogue cat = good_list cat.list && good_version cat.version cat.floor cat.list

-- shapes
abbrev pub shapes_name : List ℕ
shapes_name = 115 ∷ 104 ∷ 97 ∷ 112 ∷ 101 ∷ 115 ∷ []

-- gone
abbrev pub gone_name : List ℕ
gone_name = 103 ∷ 111 ∷ 110 ∷ 101 ∷ []

-- "first line shapes and 1", or "shapes, 2 and a floor"
unfoldable pub first_line : ℕ → ℕ → List ℕ
first_line version floor = cond (eqb version 1) (line_with 4 shapes_name (1 ∷ [])) (line_with 4 shapes_name (2 ∷ floor ∷ []))

-- "a line with the revision [..] and the word gone in place of the three numbers"
unfoldable pub gone_line : List ℕ → ℕ → List ℕ
gone_line name revision = name ++ (cells_of 4 (revision ∷ []) ++ (9 ∷ (gone_name ++ (10 ∷ []))))

-- "then name, revision, m, w, c [..], each line ended by a line feed, no leading zeros"
unfoldable pub entry_line : Entry → List ℕ
entry_line e = cond (is_gone e) (gone_line e.name e.revision) (line_with 4 e.name (e.revision ∷ e.m ∷ e.w ∷ e.c ∷ []))

-- the lines of a list
unfoldable pub lines_of : List Entry → List ℕ
lines_of [] = []
lines_of (e ∷ list) = entry_line e ++ lines_of list

-- the text of a catalogue
unfoldable pub catalogue_text : Catalogue → List ℕ
catalogue_text cat = first_line cat.version cat.floor ++ lines_of cat.list

-- the numbers after a line's name; 65,537 for a field that is no number up to 65,535
unfoldable pub numbers_of : List ℕ → List ℕ
numbers_of line = map (number_of 65536) (drop 1 (fields line))

-- whether the word gone stands behind a line's second tab
unfoldable pub says_gone : List ℕ → Bool
says_gone line = same (joined_by 9 (drop 2 (fields line))) gone_name

-- the entry that a line with a shape is read as
unfoldable pub shaped_of : List ℕ → Entry
shaped_of line = record {
  name = line_name line;
  revision = get_or (numbers_of line) 0 0;
  m = get_or (numbers_of line) 1 0;
  w = get_or (numbers_of line) 2 0;
  c = get_or (numbers_of line) 3 0;
}

-- the entry that a line is read as
unfoldable pub entry_of : List ℕ → Entry
entry_of line =
    cond (says_gone line) (record { name = line_name line; revision = get_or (numbers_of line) 0 0; m = 0; w = 0; c = 0 }) (shaped_of line)

-- the entries of some lines, of which the last is what stands after the last line feed
unfoldable pub entries_of : List (List ℕ) → List Entry
entries_of [] = []
entries_of (last ∷ []) = []
entries_of (line ∷ next ∷ lines) = entry_of line ∷ entries_of (next ∷ lines)

-- the list that a text is read as; line feeds, the byte 10, part its lines
unfoldable pub list_of_text : List ℕ → List Entry
list_of_text text = entries_of (drop 1 (parts 10 text))

-- whether a first line, without its line feed, is shapes and 1
unfoldable pub is_one : List ℕ → Bool
is_one line = same line (shapes_name ++ cells_of 4 (1 ∷ []))

-- the floor that it is read as: 0, or the number behind shapes and 2, which take nine bytes with their tabs; 65,537 if that is no number up to 65,535
unfoldable pub floor_of : List ℕ → ℕ
floor_of line = cond (is_one line) 0 (number_of 65536 (drop 9 line))

-- the catalogue that a text is read as
unfoldable pub catalogue_of : List ℕ → Catalogue
catalogue_of text = record {
  version = cond (is_one (get_or (parts 10 text) 0 [])) 1 2;
  floor = floor_of (get_or (parts 10 text) 0 []);
  list = list_of_text text;
}

-- A text is "of this form" if the catalogue that it is read as is good and has this text (`CatalogueLaws: form-exactly`: if it is the text of a good one).
unfoldable pub of_form : List ℕ → Bool
of_form text = good_catalogue (catalogue_of text) && same (catalogue_text (catalogue_of text)) text
