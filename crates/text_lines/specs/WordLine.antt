-- The refused line of a 9 in one of many words.
use Rattle.std.specs.Prelude.{List, [], ◌∷◌, ℕ}
use Rattle.text.specs.Lines.{line_with, refused_name}

-- "for 9: refused, 9, x, group", numbers of at most ten digits
unfoldable pub contradictory_word_line : ℕ → ℕ → List ℕ
contradictory_word_line x group = line_with 9 refused_name (9 ∷ x ∷ group ∷ [])
