-- The rows of sixteen that the inverse is made of: the inverse of a is a^16 times the inverse of its norm a^17, which is a locator.
use Rattle.std.specs.Prelude.{List, [], ◌∷◌, ℕ}

-- the sixteenth powers of 0 to 15
unfoldable pub sixteenths_low : List ℕ
sixteenths_low = 0 ∷ 1 ∷ 76 ∷ 77 ∷ 157 ∷ 156 ∷ 209 ∷ 208 ∷ 70 ∷ 71 ∷ 10 ∷ 11 ∷ 219 ∷ 218 ∷ 151 ∷ 150 ∷ []

-- the sixteenth powers of 0, 16, 32, .., 240
unfoldable pub sixteenths_high : List ℕ
sixteenths_high = 0 ∷ 95 ∷ 253 ∷ 162 ∷ 217 ∷ 134 ∷ 36 ∷ 123 ∷ 129 ∷ 222 ∷ 124 ∷ 35 ∷ 88 ∷ 7 ∷ 165 ∷ 250 ∷ []

-- the locator with each low four bits
unfoldable pub locators_by_low : List ℕ
locators_by_low = 0 ∷ 1 ∷ 146 ∷ 147 ∷ 68 ∷ 69 ∷ 214 ∷ 215 ∷ 152 ∷ 153 ∷ 10 ∷ 11 ∷ 220 ∷ 221 ∷ 78 ∷ 79 ∷ []

-- its inverse; 0 for the locator 0
unfoldable pub locator_inverses : List ℕ
locator_inverses = 0 ∷ 1 ∷ 68 ∷ 79 ∷ 146 ∷ 78 ∷ 215 ∷ 214 ∷ 11 ∷ 220 ∷ 221 ∷ 152 ∷ 153 ∷ 10 ∷ 69 ∷ 147 ∷ []
