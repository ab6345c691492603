-- Text written over a buffer.
use Rattle.std.specs.Prelude.{cond, List, ◌++◌, ℕ, ◌+◌, leb, length, take, drop}

-- a buffer with a text in it from a position on
unfoldable pub written : List ℕ → ℕ → List ℕ → List ℕ
written out at text = take at out ++ (text ++ drop (at + length text) out)

-- a buffer in which a text was put from a position on, where it has room; else nothing changes
unfoldable pub put_at : List ℕ → ℕ → List ℕ → List ℕ
put_at out at text = cond (leb (at + length text) (length out)) (written out at text) out

-- and the position after the text, or the same one if it had no room
unfoldable pub next_at : List ℕ → ℕ → List ℕ → ℕ
next_at out at text = cond (leb (at + length text) (length out)) (at + length text) at
