-- The parts of a text, the fields of a line, and what each means.
use Rattle.std.specs.Prelude.{Bool, true, false, cond, ◌&&◌, List, [], ◌∷◌, ◌++◌, ℕ, ◌+◌, eqb, length, drop}
use Rattle.text.specs.Decimal.{number_of}

-- a text with one byte more in its first field
abbrev pub with_first : ℕ → List (List ℕ) → List (List ℕ)
with_first x [] = (x ∷ []) ∷ []
with_first x (f ∷ fs) = (x ∷ f) ∷ fs

-- the parts of a text between separators; an empty text is one empty part
unfoldable pub parts : ℕ → List ℕ → List (List ℕ)
parts sep [] = [] ∷ []
parts sep (x ∷ xs) = cond (eqb x sep) ([] ∷ parts sep xs) (with_first x (parts sep xs))

-- "fields parted by one tab", the byte 9
abbrev pub fields : List ℕ → List (List ℕ)
fields = parts 9

-- whether two texts are the same
unfoldable pub same : List ℕ → List ℕ → Bool
same [] [] = true
same [] (y ∷ ys) = false
same (x ∷ xs) [] = false
same (x ∷ xs) (y ∷ ys) = eqb x y && same xs ys

-- what the field - means
abbrev pub lost_place : ℕ
lost_place = 256

-- "- is a lost place": 0 to 255 for a number, 256 for a lost place, 257 for a field that can't be read
unfoldable pub meaning : List ℕ → ℕ
meaning xs = cond (same xs (45 ∷ [])) lost_place (number_of 256 xs)

-- the bytes before the first separator
unfoldable pub up_to : ℕ → List ℕ → List ℕ
up_to sep [] = []
up_to sep (x ∷ xs) = cond (eqb x sep) [] (x ∷ up_to sep xs)

-- the parts after a separator that stands first
unfoldable pub later : ℕ → List ℕ → List (List ℕ)
later sep [] = []
later sep (x ∷ xs) = parts sep xs

-- the bytes before the first tab
abbrev pub to_tab : List ℕ → List ℕ
to_tab = up_to 9

-- the end of the part that starts at a place
unfoldable pub end_of : ℕ → ℕ → List ℕ → ℕ
end_of sep i text = i + length (up_to sep (drop i text))

-- the parts that stand after place i, which is a separator or the text's end
unfoldable pub parts_from : ℕ → ℕ → List ℕ → List (List ℕ)
parts_from sep i text = later sep (drop i text)

-- ---- the parts of a text and the separators between them are the text

unfoldable pub joined_by : ℕ → List (List ℕ) → List ℕ
joined_by sep [] = []
joined_by sep (p ∷ []) = p
joined_by sep (p ∷ q ∷ ps) = p ++ (sep ∷ joined_by sep (q ∷ ps))
