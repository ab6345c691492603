-- The field of 65,536 elements: 16 bits, modulo x^16 + x^12 + x^3 + x + 1, which is 69643. Its laws are those of binary_field at 16 and 69643;
-- here stand the two tests that make it a field and the order of 2.
use Rattle.std.specs.Prelude.{List, [], ◌∷◌, ℕ}

-- the values at 1, 2, 4, .. of the linear map of the second test
unfoldable pub halving : List ℕ
halving = 350 ∷ 42420 ∷ 42422 ∷ 7412 ∷ 42418 ∷ 10272 ∷ 7420 ∷ 1328 ∷ 42402 ∷ 38610 ∷ 10240 ∷ 5068 ∷ 7356 ∷ 0 ∷ 1456 ∷ 21936 ∷ []
