-- Output lines, each with its line feed, the byte 10. "A shape is answered ok, n, k; data and word by a word line."
use Rattle.std.specs.Prelude.{List, [], ◌∷◌, ◌++◌, ℕ}
use Rattle.text.specs.Decimal.{digits_of}
use Rattle.text.specs.Records.{word_name}

-- numbers as fields, each after a tab and with at most so many digits after its first one
unfoldable pub cells_of : ℕ → List ℕ → List ℕ
cells_of more [] = []
cells_of more (x ∷ xs) = 9 ∷ (digits_of more x ++ cells_of more xs)

-- numbers below 1,000
abbrev pub cells : List ℕ → List ℕ
cells = cells_of 2

-- a line: its name and its numbers
unfoldable pub line_with : ℕ → List ℕ → List ℕ → List ℕ
line_with more name numbers = name ++ (cells_of more numbers ++ (10 ∷ []))

-- with numbers below 1,000
abbrev pub line_of : List ℕ → List ℕ → List ℕ
line_of = line_with 2

-- ok, n, k
unfoldable pub ok_line : ℕ → ℕ → List ℕ
ok_line n k = line_of (111 ∷ 107 ∷ []) (n ∷ k ∷ [])

-- the word refused
abbrev pub refused_name : List ℕ
refused_name = 114 ∷ 101 ∷ 102 ∷ 117 ∷ 115 ∷ 101 ∷ 100 ∷ []

-- refused and the number
unfoldable pub refused_line : ℕ → List ℕ
refused_line r = line_of refused_name (r ∷ [])

-- "A 9 now carries a group number [..]. The program writes refused, 9 and that number"
unfoldable pub contradictory_line : ℕ → List ℕ
contradictory_line group = line_of refused_name (9 ∷ group ∷ [])

-- word and its bytes
unfoldable pub word_line : List ℕ → List ℕ
word_line word = line_of word_name word
