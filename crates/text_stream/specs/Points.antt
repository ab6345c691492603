-- Where a session stands after some bytes of its input, and what more bytes add to its output.
use Rattle.std.specs.Prelude.{cond, List, [], ◌∷◌, ◌++◌, ℕ, eqb, take}
use Rattle.text_session.specs.Turn.{Turn, turn_of}

-- The line so far and the shape in force; m 0 stands for no shape yet.
pub record Point : Type 0 where
  pub line : List ℕ
  pub m : ℕ
  pub w : ℕ
  pub c : ℕ

-- an empty line and the shape m, w, c
abbrev pub clear : ℕ → ℕ → ℕ → Point
clear m w c = record { line = []; m = m; w = w; c = c }

-- after a turn: an empty line, and the shape of the turn
abbrev pub onward : Turn → Point
onward t = clear t.m t.w t.c

-- the turn of the line so far
abbrev pub turn_at : Point → Turn
turn_at p = turn_of p.line p.m p.w p.c

-- a line that goes on with a byte
abbrev pub longer : Point → ℕ → Point
longer p x = record { line = p.line ++ (x ∷ []); m = p.m; w = p.w; c = p.c }

-- "line ended by a line feed": then the next line is empty and the shape of the turn is in force; another byte goes on the line
unfoldable pub next : Point → ℕ → Point
next p x = cond (eqb x 10) (onward (turn_at p)) (longer p x)

-- after some bytes
unfoldable pub after_bytes : Point → List ℕ → Point
after_bytes p [] = p
after_bytes p (x ∷ xs) = after_bytes (next p x) xs

-- a line feed brings the answer to its line
unfoldable pub said : Point → ℕ → List ℕ
said p x = cond (eqb x 10) (turn_at p).output []

-- what some bytes bring
unfoldable pub adds : Point → List ℕ → List ℕ
adds p [] = []
adds p (x ∷ xs) = said p x ++ adds (next p x) xs

-- the end of the input: "a last line without one counts unless empty"
abbrev pub unless_empty : List ℕ → List ℕ → List ℕ
unless_empty [] output = []
unless_empty (x ∷ line) output = output

-- what the end of the input brings
unfoldable pub closing : Point → List ℕ
closing p = unless_empty p.line (turn_at p).output

-- Of a line no more than its first 1,025 bytes are kept: they show that it is longer than 1,024.
unfoldable pub kept_point : Point → Point
kept_point p = record { line = take 1025 p.line; m = p.m; w = p.w; c = p.c }
