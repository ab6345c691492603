-- Four rows of sixteen that lie one after another in a list of 64.
use Rattle.std.specs.Prelude.{List, [], ◌∷◌, ℕ}
use Rattle.code.specs.Stretch.{stretch}

unfoldable pub rows_of : List ℕ → List (List ℕ)
rows_of x = stretch 16 0 x ∷ stretch 16 1 x ∷ stretch 16 2 x ∷ stretch 16 3 x ∷ []
