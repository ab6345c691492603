-- A whole session: from the bytes of its input to the bytes of its output.
use Rattle.std.specs.Prelude.{List, [], ◌∷◌, ◌++◌, ℕ}
use Rattle.text.specs.Input.{lines}
use Rattle.text_session.specs.Turn.{turn_of}

-- "Each input line gives exactly one output line.": the answers to lines, in order, where the shape m, w, c is in force before the first
unfoldable pub line_answers : List (List ℕ) → ℕ → ℕ → ℕ → List (List ℕ)
line_answers [] m w c = []
line_answers (line ∷ rest) m w c =
    (turn_of line m w c).output ∷ line_answers rest (turn_of line m w c).m (turn_of line m w c).w (turn_of line m w c).c

-- texts one after the other
unfoldable pub joined_lines : List (List ℕ) → List ℕ
joined_lines [] = []
joined_lines (text ∷ rest) = text ++ joined_lines rest

-- the output of an input, with no shape in force before it
unfoldable pub session_of : List ℕ → List ℕ
session_of input = joined_lines (line_answers (lines input) 0 0 0)
