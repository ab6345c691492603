-- "The program writes refused, 9 and that number": two lines with the shape m 2, w 3, c 1 in force, shown of the definition.
use Rattle.std.specs.Prelude.{List, [], ◌∷◌, ℕ}

-- word⇥1⇥1⇥0⇥78⇥206⇥129
abbrev pub last_line : List ℕ
last_line = 119 ∷ 111 ∷ 114 ∷ 100 ∷ 9 ∷ 49 ∷ 9 ∷ 49 ∷ 9 ∷ 48 ∷ 9 ∷ 55 ∷ 56 ∷ 9 ∷ 50 ∷ 48 ∷ 54 ∷ 9 ∷ 49 ∷ 50 ∷ 57 ∷ []

-- word⇥1⇥1⇥0⇥0⇥0⇥0
abbrev pub across_line : List ℕ
across_line = 119 ∷ 111 ∷ 114 ∷ 100 ∷ 9 ∷ 49 ∷ 9 ∷ 49 ∷ 9 ∷ 48 ∷ 9 ∷ 48 ∷ 9 ∷ 48 ∷ 9 ∷ 48 ∷ []
