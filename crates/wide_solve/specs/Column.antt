-- A list of symbols as the right sides of a system, which stand in column 4.
use Rattle.std.specs.Prelude.{List, [], ◌∷◌, ℕ}

unfoldable pub column_of : List ℕ → List (List ℕ)
column_of [] = []
column_of (v ∷ vs) = (0 ∷ 0 ∷ 0 ∷ 0 ∷ v ∷ []) ∷ column_of vs
