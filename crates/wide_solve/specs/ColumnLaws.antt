-- Laws: Symbols as a column of right sides.
use Rattle.std.specs.Prelude.{◌≡◌, refl, List, [], ◌∷◌, ℕ, zero, suc, get_or}
use Rattle.code_engine.specs.Elimination.{entry}
use Rattle.wide_solve.specs.Column.{column_of}

pub column-at : (u : List ℕ) (i : ℕ) → entry (column_of u) i 4 ≡ get_or u i 0
unfolding column_of
column-at [] i = refl
column-at (v ∷ vs) zero = refl
column-at (v ∷ vs) (suc i) = column-at vs i
