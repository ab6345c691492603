-- The right sides of a system written at positions.
use Rattle.std.specs.Prelude.{List, ℕ, zero, suc, get_or, set}
use Rattle.code_engine.specs.Elimination.{entry}

-- for each i below t the right side of row i, in column 4, written at position at[i]
unfoldable pub placed : List ℕ → List ℕ → List (List ℕ) → ℕ → List ℕ
placed xs at M zero = xs
placed xs at M (suc t) = set (placed xs at M t) (get_or at t 0) (entry M t 4)
