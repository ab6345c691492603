-- The lost places of one group: the first c are bound for the group's own equations, the others are free.
use Rattle.std.specs.Prelude.{Bool, true, false, not, ◌&&◌, List, [], ◌∷◌, ℕ, zero, suc, ◌-◌, eqb}
use Rattle.counting.specs.Count.{one}
use Rattle.code.specs.Marks.{lost}

-- a place that is lost and not bound
abbrev pub free : List ℕ → List ℕ → ℕ → Bool
free marks bound p = lost marks p && not (lost bound p)

-- what becomes of a mark x, lost if the Bool is true, where c lost places may still be bound
abbrev pub bound_mark : ℕ → Bool → ℕ → ℕ
bound_mark c false x = x
bound_mark zero true x = 0
bound_mark (suc c) true x = x

-- the marks of a group with the first c lost places lost and the later ones not
unfoldable pub bound_of : ℕ → List ℕ → List ℕ
bound_of c [] = []
bound_of c (x ∷ xs) = bound_mark c (eqb x 1) x ∷ bound_of (c - one (eqb x 1)) xs
