-- The field of bytes: 8 bits, modulo x^8 + x^4 + x^3 + x^2 + 1, which is 285. Its laws are those of binary_field at 8 and 285;
-- here stand the two tests that make it a field, the order of 2, and what follows for bytes.
use Rattle.std.specs.Prelude.{List, [], ◌∷◌, ℕ}

-- the values at 1, 2, 4, .. of the linear map of the second test
unfoldable pub halving : List ℕ
halving = 214 ∷ 232 ∷ 234 ∷ 44 ∷ 238 ∷ 0 ∷ 36 ∷ 80 ∷ []
