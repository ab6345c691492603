-- The names of shapes, and their order.
use Rattle.std.specs.Prelude.{Bool, true, false, cond, ◌&&◌, ◌||◌, List, [], ◌∷◌, ℕ, eqb, leb, ltb, length}
use Rattle.text.specs.Decimal.{is_digit}

-- "letters a to z, digits or hyphens"
abbrev pub name_byte : ℕ → Bool
name_byte x = (leb 97 x && ltb x 123) || (is_digit x || eqb x 45)

-- whether all bytes are such
unfoldable pub name_bytes : List ℕ → Bool
name_bytes [] = true
name_bytes (x ∷ xs) = name_byte x && name_bytes xs

-- "A name is 1 to 16 letters a to z, digits or hyphens."
unfoldable pub good_name : List ℕ → Bool
good_name name = leb 1 (length name) && (leb (length name) 16 && name_bytes name)

-- "in byte order": at the first byte in which two names differ the smaller one is first; a name that another begins with stands before it
unfoldable pub before : List ℕ → List ℕ → Bool
before [] [] = false
before [] (y ∷ ys) = true
before (x ∷ xs) [] = false
before (x ∷ xs) (y ∷ ys) = cond (eqb x y) (before xs ys) (ltb x y)
