-- All free places of a word in order, and the first two of them.
use Rattle.std.specs.Prelude.{Bool, true, false, List, [], ◌∷◌, ℕ}
use Rattle.erasures.specs.declared.Free.{Free}

-- p before ps, if the test holds
abbrev pub cons_if : Bool → ℕ → List ℕ → List ℕ
cons_if true p ps = p ∷ ps
cons_if false p ps = ps

-- how many of the first two there are, and which; 0 for one that is not there
abbrev pub first_two : List ℕ → Free
first_two [] = record { count = 0; first = 0; second = 0 }
first_two (p ∷ []) = record { count = 1; first = p; second = 0 }
first_two (p ∷ (q ∷ ps)) = record { count = 2; first = p; second = q }
