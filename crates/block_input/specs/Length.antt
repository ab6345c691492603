-- The line length. "L is decimal to 65,536 there"
use Rattle.std.specs.Prelude.{cond, ◌&&◌, List, [], ◌∷◌, ℕ, leb, length, take, drop}
use Rattle.text.specs.Decimal.{unreadable, number_of}
use Rattle.text.specs.Fields.{same}

-- length and a tab
abbrev pub length_start : List ℕ
length_start = 108 ∷ 101 ∷ 110 ∷ 103 ∷ 116 ∷ 104 ∷ 9 ∷ []

-- L of a line of at most 1,024 bytes: length, a tab and one number below 65,537; 65,538 for a line that can't be read
unfoldable pub length_of : List ℕ → ℕ
length_of line = cond (leb (length line) 1024 && same (take 7 line) length_start) (number_of 65537 (drop 7 line)) (unreadable 65537)
