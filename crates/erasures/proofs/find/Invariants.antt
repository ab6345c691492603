use Rattle.std.proofs.Common.{◌≡◌, ◌++◌, ◌-◌, ◌≤◌, length, take, drop, replicate}
use Rattle.counting.specs.Count.{count_below}
use Rattle.code.specs.Marks.{lost}
use Rattle.code_engine.specs.Positions.{Positions, first_lost}
use Rattle.erasures.proofs.find.Given as goal

abbrev pub invariant-loop-i : goal.invariant-loop-i
invariant-loop-i l = (length l.at ≡ 4) × (l.n ≡ count_below l.i (lost l.marks)) × (l.n ≤ 4 → Positions l.marks l.i l.at l.n)
    × (take l.n l.at ++ first_lost (4 - l.n) l.i (drop l.i l.marks) ≡ first_lost 4 0 l.marks) × (drop l.n l.at ≡ replicate (4 - l.n) 0)
