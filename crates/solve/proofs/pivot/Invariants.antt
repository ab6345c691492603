use Rattle.std.proofs.Common.{◌≡◌, ◌-◌}
use Rattle.code_engine.specs.Elimination.{pivot_from}
use Rattle.solve.proofs.pivot.Given as goal

abbrev pub invariant-loop-i : goal.invariant-loop-i
invariant-loop-i l = pivot_from l.rows l.j (l.t - l.i) l.i ≡ pivot_from l.rows l.j (l.t - l.j) l.j
