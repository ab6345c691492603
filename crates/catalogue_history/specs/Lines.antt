-- "no other name's line changes": what a change does to the text, line by line.
use Rattle.std.specs.Prelude.{◌≡◌, ◌⊎◌, List, [], ◌++◌, ℕ}
use Rattle.catalogue_text.specs.Catalogue.{Entry, Catalogue, first_line, entry_line, catalogue_text}
use Rattle.catalogue_text.specs.Changes.{next_entry, changed_by}

-- Before and after a change of a name the same bytes stand in front of its line and behind it, up to the first line; its old line may be none.
pub record OneLine (name : List ℕ) (m w c : ℕ) (cat : Catalogue) : Type 0 where
  pub front : List ℕ
  pub line : List ℕ
  pub back : List ℕ
  pub before : catalogue_text cat ≡ first_line cat.version cat.floor ++ (front ++ (line ++ back))
  pub after : catalogue_text (changed_by name m w c cat) ≡ first_line 2 cat.floor ++ (front ++ (entry_line (next_entry name m w c cat) ++ back))
  pub old : (line ≡ []) ⊎ ((e : Entry) × (e.name ≡ name) × (line ≡ entry_line e))
