-- What put, remove and compaction make of a catalogue.
use Rattle.std.specs.Prelude.{cond, List, [], ◌∷◌, ℕ, ◌+◌, max, eqb}
use Rattle.text.specs.Fields.{same}
use Rattle.catalogue_text.specs.Names.{before}
use Rattle.catalogue_text.specs.Catalogue.{Entry, is_gone, none_gone, Catalogue}

-- the entry of a name; of one that isn't there all numbers are 0, and no good entry has revision 0
unfoldable pub entry_for : List ℕ → List Entry → Entry
entry_for name [] = record { name = name; revision = 0; m = 0; w = 0; c = 0 }
entry_for name (e ∷ list) = cond (same e.name name) e (entry_for name list)

-- an entry in place of the one of its name, or between those before and after it
unfoldable pub put_in : Entry → List Entry → List Entry
put_in e [] = e ∷ []
put_in e (f ∷ list) = cond (before f.name e.name) (f ∷ put_in e list) (cond (same f.name e.name) (e ∷ list) (e ∷ f ∷ list))

-- the entry of a name in a catalogue
abbrev pub entry_in : List ℕ → Catalogue → Entry
entry_in name cat = entry_for name cat.list

-- the revision under which a name is found, which a put and a remove expect; 0 if it isn't there or is gone: "a put on one expects 0"
abbrev pub found_revision : Entry → ℕ
found_revision e = cond (is_gone e) 0 e.revision

-- the last revision that a name may have had: that of its line, gone or not, or the floor
abbrev pub last_revision : ℕ → Entry → ℕ
last_revision floor e = cond (eqb e.revision 0) floor e.revision

-- "raised by one"; "New names start at floor+1"
unfoldable pub next_entry : List ℕ → ℕ → ℕ → ℕ → Catalogue → Entry
next_entry name m w c cat = record { name = name; revision = last_revision cat.floor (entry_in name cat) + 1; m = m; w = w; c = c }

-- a put that is done, and, with zeros, a remove: "the first change writes version 2"
unfoldable pub changed_by : List ℕ → ℕ → ℕ → ℕ → Catalogue → Catalogue
changed_by name m w c cat = record { version = 2; floor = cat.floor; list = put_in (next_entry name m w c cat) cat.list }

-- "Compaction drops all gone lines"
unfoldable pub without_gone : List Entry → List Entry
without_gone [] = []
without_gone (e ∷ list) = cond (is_gone e) (without_gone list) (e ∷ without_gone list)

-- the largest of a number and the revisions of gone lines
unfoldable pub largest_gone : ℕ → List Entry → ℕ
largest_gone top [] = top
largest_gone top (e ∷ list) = largest_gone (cond (is_gone e) (max top e.revision) top) list

-- a compaction: the floor becomes "the largest revision ever dropped"; "with no gone line it changes nothing"
unfoldable pub compacted : Catalogue → Catalogue
compacted cat =
    cond (none_gone cat.list) cat
    (record { version = 2; floor = max cat.floor (largest_gone 0 cat.list); list = without_gone cat.list })
