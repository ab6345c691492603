-- The sixteen locators: the constant table, its power rule by one test, and that they are the subfield of 16 elements.
use Rattle.std.specs.Prelude.{List, [], ◌∷◌, ℕ}

-- "The sixteen locators, in place order"
unfoldable pub locators : List ℕ
locators = 1 ∷ 152 ∷ 78 ∷ 10 ∷ 153 ∷ 214 ∷ 68 ∷ 147 ∷ 79 ∷ 146 ∷ 215 ∷ 220 ∷ 221 ∷ 69 ∷ 11 ∷ 0 ∷ []
