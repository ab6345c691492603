use Rattle.std.proofs.Common.{◌≡◌}
use Rattle.code_engine.specs.Placed.{placed}
use Rattle.wide_solve.specs.Column.{column_of}
use Rattle.wide_solve.proofs.place.Given as goal

abbrev pub invariant-loop-i : goal.invariant-loop-i
invariant-loop-i l = (l.part ≡ placed l.initial.part l.at (column_of l.u) l.i)
