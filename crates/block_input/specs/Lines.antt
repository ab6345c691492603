-- The first line of an input and what comes after it. "line ended by a line feed", the byte 10; "a last line without one counts".
use Rattle.std.specs.Prelude.{Bool, true, false, cond, ◌||◌, List, [], ◌∷◌, ℕ, suc, eqb, ltb, length}
use Rattle.text.specs.Fields.{up_to}

-- the bytes before the first line feed, or all where there is none
abbrev pub until_line_feed : List ℕ → List ℕ
until_line_feed = up_to 10

-- the bytes after it, or none
unfoldable pub after_line : List ℕ → List ℕ
after_line [] = []
after_line (x ∷ xs) = cond (eqb x 10) xs (after_line xs)

-- whether there is a line feed
unfoldable pub has_feed : List ℕ → Bool
has_feed [] = false
has_feed (x ∷ xs) = cond (eqb x 10) true (has_feed xs)

-- Whether what is read so far settles its first line: the input has ended, or the line has its line feed, or it is longer than 1,024 bytes.
unfoldable pub settled : Bool → List ℕ → Bool
settled ended input = ended || (has_feed input || ltb 1024 (length input))

-- the place after the line
abbrev pub next_start : ℕ → ℕ → ℕ
next_start end size = cond (ltb end size) (suc end) end
