-- The lines of an input. "One record a line, [..] line ended by a line feed", the byte 10; "a last line without one counts unless empty."
use Rattle.std.specs.Prelude.{cond, List, [], ◌∷◌, ℕ, eqb}
use Rattle.text.specs.Fields.{with_first}

-- the bytes between line feeds
unfoldable pub lines : List ℕ → List (List ℕ)
lines [] = []
lines (x ∷ xs) = cond (eqb x 10) ([] ∷ lines xs) (with_first x (lines xs))
