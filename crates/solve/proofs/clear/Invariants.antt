use Rattle.std.proofs.Common.{◌≡◌}
use Rattle.code_engine.specs.Elimination.{cleared}
use Rattle.solve.proofs.clear.Given as goal

abbrev pub invariant-loop-i : goal.invariant-loop-i
invariant-loop-i l = l.rows ≡ cleared 8 285 l.initial.rows l.j l.i
