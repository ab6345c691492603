-- Lookup, Put and Remove of named shapes, in a text that stands at the start of a lent buffer.
use Rattle.std.specs.Prelude.{◌≡◌, not, ◌||◌, List, [], ◌∷◌, ℕ, eqb, ltb, length, Result, Ok, Err}
use Rattle.answers.specs.declared.Refusal.{Refusal}
use Rattle.answers.specs.Answers.{refused_number}
use Rattle.code.specs.Refusals.{refuse, ◌or_else◌, unless_refused}
use Rattle.shape.specs.Shapes.{byte_limits}
use Rattle.code.specs.Limits.{sale_refusal_in}
use Rattle.catalogue_text.specs.Names.{good_name}
use Rattle.catalogue_text.specs.Catalogue.{Entry, is_gone, catalogue_text}
use Rattle.catalogue_text.specs.Changes.{entry_in, found_revision, last_revision, next_entry, changed_by}
use Rattle.catalogue_text.specs.Buffers.{formed, catalogue_in, with_text}
use Rattle.catalogue_calls.specs.declared.Stored.{Stored}
use Rattle.catalogue_calls.specs.declared.Changed.{Changed}

-- "16 text not of this form"
unfoldable pub text_refusal : List ℕ → ℕ → ℕ
text_refusal buffer size = refuse 16 (not (formed buffer size))

-- "17 bad name"
unfoldable pub name_refusal : List ℕ → ℕ
name_refusal name = refuse 17 (not (good_name name))

-- the entry of a name; one that isn't there has zeros, as if it were gone
abbrev pub stored : List ℕ → ℕ → List ℕ → Entry
stored buffer size name = entry_in name (catalogue_in buffer size)

-- "18 lookup of no such name"; "Such names [that are gone] aren't found by lookup or by a remove (18)"
unfoldable pub found_refusal : List ℕ → ℕ → List ℕ → ℕ
found_refusal buffer size name = refuse 18 (is_gone (stored buffer size name))

-- 16, 17 and 18
unfoldable pub lookup_refusal : List ℕ → ℕ → List ℕ → ℕ
lookup_refusal buffer size name = text_refusal buffer size or_else name_refusal name or_else found_refusal buffer size name

-- "Lookup gives shape and revision."
abbrev pub entry_figures : Entry → List ℕ
entry_figures e = e.revision ∷ e.m ∷ e.w ∷ e.c ∷ []

-- the figures of any lookup, none on a refusal
unfoldable pub lookup_figures : List ℕ → ℕ → List ℕ → List ℕ
lookup_figures buffer size name = unless_refused (lookup_refusal buffer size name) (entry_figures (stored buffer size name)) []

-- the number of an answer to a lookup, 0 for done
abbrev pub looked_number : Result Stored Refusal → ℕ
looked_number = refused_number

-- the figures of an answer to a lookup: revision, m, w and c, none on a refusal
abbrev pub looked_figures : Result Stored Refusal → List ℕ
looked_figures (Ok s) = s.revision ∷ s.m ∷ s.w ∷ s.c ∷ []
looked_figures (Err e) = []

-- "its line takes the shape put", or the word gone with zeros, "and the stored revision rises by one"
abbrev pub changed_entry : List ℕ → ℕ → List ℕ → ℕ → ℕ → ℕ → Entry
changed_entry buffer size name m w c = next_entry name m w c (catalogue_in buffer size)

-- "no other name's line changes": the text of the catalogue with this entry put into it
unfoldable pub changed_text : List ℕ → ℕ → List ℕ → ℕ → ℕ → ℕ → List ℕ
changed_text buffer size name m w c = catalogue_text (changed_by name m w c (catalogue_in buffer size))

-- "19 revision not the expected one" ("0 for a new name")
unfoldable pub expected_refusal : List ℕ → ℕ → List ℕ → ℕ → ℕ
expected_refusal buffer size name expected = refuse 19 (not (eqb (found_revision (stored buffer size name)) expected))

-- "20 revision at its end" ("A put of a new name whose floor is at its end gets 20"), "21 new text would exceed 4,096 bytes or the buffer's length"
unfoldable pub change_refusal : List ℕ → ℕ → List ℕ → ℕ → ℕ → ℕ → ℕ
change_refusal buffer size name m w c =
    refuse 20 (eqb (last_revision (catalogue_in buffer size).floor (stored buffer size name)) 65535)
    or_else refuse 21 (ltb 4096 (length (changed_text buffer size name m w c)) || ltb (length buffer) (length (changed_text buffer size name m w c)))

-- "Check order is the number order after shape refusals 1 to 4", and 29 straight after 4
unfoldable pub put_refusal : ℕ → ℕ → ℕ → List ℕ → ℕ → List ℕ → ℕ → ℕ
put_refusal m w c name expected buffer size =
    sale_refusal_in byte_limits m w c or_else text_refusal buffer size
    or_else name_refusal name or_else expected_refusal buffer size name expected
    or_else change_refusal buffer size name m w c

-- "A remove checks 16 to 21 in order."
unfoldable pub remove_refusal : List ℕ → ℕ → List ℕ → ℕ → ℕ
remove_refusal name expected buffer size =
    text_refusal buffer size
    or_else name_refusal name
    or_else found_refusal buffer size name
    or_else expected_refusal buffer size name expected
    or_else change_refusal buffer size name 0 0 0

-- "the put answers the new text's length and that revision", "a remove what a put answers"
abbrev pub change_figures : List ℕ → ℕ → List ℕ → ℕ → ℕ → ℕ → List ℕ
change_figures buffer size name m w c = length (changed_text buffer size name m w c) ∷ (changed_entry buffer size name m w c).revision ∷ []

-- the figures of any put, none on a refusal
unfoldable pub put_figures : ℕ → ℕ → ℕ → List ℕ → ℕ → List ℕ → ℕ → List ℕ
put_figures m w c name expected buffer size =
    unless_refused (put_refusal m w c name expected buffer size) (change_figures buffer size name m w c) []

-- the buffer afterwards: the new text, and "bytes past a new text stay"; on a refusal all bytes stay
unfoldable pub put_buffer : ℕ → ℕ → ℕ → List ℕ → ℕ → List ℕ → ℕ → List ℕ
put_buffer m w c name expected buffer size =
    unless_refused (put_refusal m w c name expected buffer size) (with_text (changed_text buffer size name m w c) buffer) buffer

-- the figures of any remove, none on a refusal
unfoldable pub remove_figures : List ℕ → ℕ → List ℕ → ℕ → List ℕ
remove_figures name expected buffer size = unless_refused (remove_refusal name expected buffer size) (change_figures buffer size name 0 0 0) []

-- the buffer after a remove
unfoldable pub remove_buffer : List ℕ → ℕ → List ℕ → ℕ → List ℕ
remove_buffer name expected buffer size =
    unless_refused (remove_refusal name expected buffer size) (with_text (changed_text buffer size name 0 0 0) buffer) buffer

-- the number of an answer to a put or a remove, 0 for done
abbrev pub changed_number : Result Changed Refusal → ℕ
changed_number = refused_number

-- the figures of an answer to a put or a remove: the new length and the revision, none on a refusal
abbrev pub changed_figures : Result Changed Refusal → List ℕ
changed_figures (Ok d) = d.size ∷ d.revision ∷ []
changed_figures (Err e) = []

-- Of a put, a remove, or what is left of them after 16 to 19: the number, the figures and the buffer afterwards, by the number of the refusal.
abbrev pub ChangeLeaves : ℕ → List ℕ → ℕ → List ℕ → ℕ → ℕ → ℕ → Result Changed Refusal → List ℕ → Type 0
ChangeLeaves refusal buffer size name m w c r after =
    (changed_number r ≡ refusal) × ((changed_figures r ≡ unless_refused refusal (change_figures buffer size name m w c) [])
    × (after ≡ unless_refused refusal (with_text (changed_text buffer size name m w c) buffer) buffer))
