-- What put, remove and compaction leave, in the words of the requests, of the definitions that the contracts cite.
use Rattle.std.specs.Prelude.{◌≡◌, true, cond, List, [], ◌∷◌, ℕ, eqb, length, take, drop}
use Rattle.catalogue_text.specs.Catalogue.{none_gone}
use Rattle.catalogue_text.specs.Changes.{changed_by, compacted}
use Rattle.catalogue_text.specs.Buffers.{formed, catalogue_in}
use Rattle.catalogue_calls.specs.Calls.{lookup_refusal, lookup_figures, changed_entry, changed_text, change_figures}
use Rattle.catalogue_compact.specs.Compaction.{compact_refusal, compacted_text, compact_figures, compact_buffer}

-- what a lookup answers: its number and its figures
unfoldable pub looked_in : List ℕ → ℕ → List ℕ → ℕ × List ℕ
looked_in buffer size name = (lookup_refusal buffer size name, lookup_figures buffer size name)

-- Of a put, or with zeros a remove, that is done: it answers the new text's length and the name's revision; the text is of the form, that of the catalogue
-- with the entry put into it, and is read as that; lookup of the name gives the shape put and that revision, or 18 after a remove, and of every other name
-- what it gave before; bytes past the new text stay.
pub record ChangeDone (number : ℕ) (figures after buffer : List ℕ) (size : ℕ) (name : List ℕ) (m w c : ℕ) : Type 0 where
  pub done : number ≡ 0
  pub answered : figures ≡ change_figures buffer size name m w c
  pub text : take (length (changed_text buffer size name m w c)) after ≡ changed_text buffer size name m w c
  pub whole : formed after (length (changed_text buffer size name m w c)) ≡ true
  pub read : catalogue_in after (length (changed_text buffer size name m w c)) ≡ changed_by name m w c (catalogue_in buffer size)
  pub found : looked_in after (length (changed_text buffer size name m w c)) name
      ≡ cond (eqb m 0) (18, []) (0, (changed_entry buffer size name m w c).revision ∷ m ∷ w ∷ c ∷ [])
  pub others : (other : List ℕ) → (other ≡ name → ⊥) → looked_in after (length (changed_text buffer size name m w c)) other ≡ looked_in buffer size other
  pub past : drop (length (changed_text buffer size name m w c)) after ≡ drop (length (changed_text buffer size name m w c)) buffer
  pub lent : length after ≡ length buffer

-- Of one that is refused: no byte changes.
pub record ChangeRefused (number : ℕ) (figures after buffer : List ℕ) (r : ℕ) : Type 0 where
  pub answered : number ≡ r
  pub none : figures ≡ []
  pub stays : after ≡ buffer

-- Of a compaction of a text of the form: it answers the new text's length; the text is of the form, that of the catalogue without gone lines, and is read as
-- that; every lookup gives what it gave before; bytes past the new text stay; with no gone line nothing changes.
pub record CompactDone (buffer : List ℕ) (size : ℕ) : Type 0 where
  pub done : compact_refusal buffer size ≡ 0
  pub answered : compact_figures buffer size ≡ length (compacted_text buffer size) ∷ []
  pub text : take (length (compacted_text buffer size)) (compact_buffer buffer size) ≡ compacted_text buffer size
  pub whole : formed (compact_buffer buffer size) (length (compacted_text buffer size)) ≡ true
  pub read : catalogue_in (compact_buffer buffer size) (length (compacted_text buffer size)) ≡ compacted (catalogue_in buffer size)
  pub found : (name : List ℕ) → looked_in (compact_buffer buffer size) (length (compacted_text buffer size)) name ≡ looked_in buffer size name
  pub past : drop (length (compacted_text buffer size)) (compact_buffer buffer size) ≡ drop (length (compacted_text buffer size)) buffer
  pub lent : length (compact_buffer buffer size) ≡ length buffer
  pub none : none_gone (catalogue_in buffer size).list ≡ true → (compact_buffer buffer size ≡ buffer) × (length (compacted_text buffer size) ≡ size)
