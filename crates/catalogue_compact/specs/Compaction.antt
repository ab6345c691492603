-- Compaction: "drops all gone lines and gives their room back".
use Rattle.std.specs.Prelude.{not, List, [], ◌∷◌, ℕ, ◌-◌, ◌≤◌, length, take, drop, ◌≡◌, T, Result, Ok, Err}
use Rattle.answers.specs.declared.Refusal.{Refusal}
use Rattle.answers.specs.Answers.{refused_number}
use Rattle.code.specs.Refusals.{refuse, unless_refused}
use Rattle.catalogue_text.specs.Catalogue.{catalogue_text, Entry, good_list, lines_of}
use Rattle.catalogue_text.specs.Changes.{compacted}
use Rattle.catalogue_text.specs.Buffers.{formed, catalogue_in, with_text}

-- "Compaction is refused by 16 alone"
unfoldable pub compact_refusal : List ℕ → ℕ → ℕ
compact_refusal buffer size = refuse 16 (not (formed buffer size))

-- the text without gone lines; "with no gone line it changes nothing"
unfoldable pub compacted_text : List ℕ → ℕ → List ℕ
compacted_text buffer size = catalogue_text (compacted (catalogue_in buffer size))

-- "It answers the text's length": the figures of any compaction, none on a refusal
unfoldable pub compact_figures : List ℕ → ℕ → List ℕ
compact_figures buffer size = unless_refused (compact_refusal buffer size) (length (compacted_text buffer size) ∷ []) []

-- the buffer afterwards: the new text, and "bytes past a new text stay"; on a refusal all bytes stay
unfoldable pub compact_buffer : List ℕ → ℕ → List ℕ
compact_buffer buffer size = unless_refused (compact_refusal buffer size) (with_text (compacted_text buffer size) buffer) buffer

-- the number of an answer, 0 for done
abbrev pub compacted_number : Result ℕ Refusal → ℕ
compacted_number = refused_number

-- the figure of an answer: the text's length, none on a refusal
abbrev pub compacted_figures : Result ℕ Refusal → List ℕ
compacted_figures (Ok size) = size ∷ []
compacted_figures (Err e) = []

-- the lines of a list stand from a place to the end of a text
pub record LinesAt (buffer : List ℕ) (size first : ℕ) (list : List Entry) : Type 0 where
  pub inside : first ≤ size
  pub held : size ≤ length buffer
  pub good : T (good_list list)
  pub lines : take (size - first) (drop first buffer) ≡ lines_of list
