-- Where the line of a name stands in a text, or would stand.
use Rattle.std.specs.Prelude.{cond, true, Option, Some, None, List, [], ◌∷◌, ℕ, ◌+◌, max, eqb, length, drop, ◌≡◌}
use Rattle.text.specs.Fields.{parts, same}
use Rattle.catalogue_text.specs.Names.{before}
use Rattle.catalogue_text.specs.Catalogue.{Entry, Catalogue, first_line, entry_line, entry_of, entries_of, floor_of, catalogue_of, of_form}
use Rattle.catalogue_text.specs.CatalogueLaws.{line_right, rest_right, head_right, version_of}
use Rattle.catalogue_text.specs.Changes.{largest_gone}
use Rattle.catalogue_text.specs.Buffers.{formed, catalogue_in}
use Rattle.catalogue_lines.specs.declared.Line.{Line}
use Rattle.catalogue_lines.specs.Reading.{as_line}
use Rattle.catalogue_scan.specs.declared.Place.{Place}
use Rattle.catalogue_scan.specs.declared.Head.{Head}
use Rattle.catalogue_scan.specs.declared.Found.{Found}

-- a place with no line of the name
abbrev pub place_at : ℕ → Place
place_at at = record { from = at; to = at; revision = 0; m = 0; w = 0; c = 0 }

-- a place after one more line, which stands from `at` to `next`: behind it if its name stands before the name, at it if it has the name
unfoldable pub place_next : List ℕ → ℕ → ℕ → Entry → Place → Place
place_next name at next e place = cond (before e.name name) (place_at next)
    (cond (same e.name name) (record { from = at; to = next; revision = e.revision; m = e.m; w = e.w; c = e.c }) place)

-- after the lines of a list
unfoldable pub place_from : List ℕ → ℕ → Place → List Entry → Place
place_from name at place [] = place
place_from name at place (e ∷ list) = place_from name (at + length (entry_line e)) (place_next name at (at + length (entry_line e)) e place) list

-- what a line after the last name is read as, if it is right
unfoldable pub right_line : List ℕ → List ℕ → Option Line
right_line last line = cond (line_right last line) (Some (as_line (entry_of line))) None

-- the larger of a number and the revision of a line with this m, if that is gone
abbrev pub larger_gone : ℕ → ℕ → ℕ → ℕ
larger_gone top m revision = cond (eqb m 0) (max top revision) top

-- a first line, without its line feed, as it is read: its length with the line feed, its version and its floor; none of another line
unfoldable pub read_head : List ℕ → Option Head
read_head line = cond (head_right line) (Some (record { size = length line + 1; version = version_of line; floor = floor_of line })) None

-- what is found in a list whose lines start at a place
abbrev pub found_from : List ℕ → ℕ → ℕ → List Entry → Found
found_from name first floor list = record { first = first; floor = floor; top = largest_gone 0 list; place = place_from name first (place_at first) list }

-- in the lines from a place on, if they are right
unfoldable pub scanned_from : List ℕ → ℕ → ℕ → List ℕ → Option Found
scanned_from text first floor name =
    cond (rest_right [] (parts 10 (drop first text))) (Some (found_from name first floor (entries_of (parts 10 (drop first text))))) None

-- what is found in a catalogue: behind its first line
abbrev pub found_in : List ℕ → Catalogue → Found
found_in name cat = found_from name (length (first_line cat.version cat.floor)) cat.floor cat.list

-- what a scan finds, if the text is of the form
unfoldable pub scanned_of : List ℕ → List ℕ → Option Found
scanned_of text name = cond (of_form text) (Some (found_in name (catalogue_of text))) None

-- and in the text at the start of a buffer
unfoldable pub scanned_in : List ℕ → ℕ → List ℕ → Option Found
scanned_in buffer size name = cond (formed buffer size) (Some (found_in name (catalogue_in buffer size))) None

-- what was found
pub record FoundIn (found : Found) (buffer : List ℕ) (size : ℕ) (name : List ℕ) : Type 0 where
  pub whole : formed buffer size ≡ true
  pub is : found ≡ found_in name (catalogue_in buffer size)
