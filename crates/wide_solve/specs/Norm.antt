-- The inverse of a symbol by its norm: the inverse of a is a^256 times the inverse of a^257, which is an element of the small field.
use Rattle.std.specs.Prelude.{List, [], ◌∷◌, ℕ}

-- the 256th powers of 1, 2, 4, ..
unfoldable pub conjugate_row : List ℕ
conjugate_row =
    1 ∷ 2863 ∷ 5790 ∷ 333 ∷ 2680 ∷ 57648 ∷ 90 ∷ 5632 ∷ 6016 ∷ 20322 ∷ 24230 ∷ 42285 ∷ 4420 ∷ 15404 ∷ 19244 ∷ 35816 ∷ []
