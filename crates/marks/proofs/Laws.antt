-- One turn of a count of lost places.
use Rattle.std.proofs.Common.{◌≡◌, refl, arith, List, ℕ, ◌+◌, ◌≤◌, Bool, true, false, get_or, eqb}
use Rattle.std.specs.Int.{from_bool}
use Rattle.counting.specs.Count.{one, count_below}
use Rattle.code.specs.Marks.{lost}
use Rattle.code_engine.specs.GroupsLaws.{count_turn}

counted : (b : Bool) → (from_bool b ≡ one b) × (one b ≤ 1)
counted true = (refl, omega arith)
counted false = (refl, omega arith)

-- n places are lost below i, and r is 1 if place i is too
pub more_lost : (p : List ℕ) (i n r : ℕ) → n ≤ i → n ≡ count_below i (lost p) → r ≡ from_bool (eqb (get_or p i 0) 1)
    → (n + r ≤ i + 1) × (n + r ≡ count_below (i + 1) (lost p))
more_lost p i n r h e is =
    let k = count_turn i (lost p) _ refl in
    let o = counted (lost p i) in (omega arith, omega arith)
