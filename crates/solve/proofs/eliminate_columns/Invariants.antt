use Rattle.std.proofs.Common.{◌≡◌}
use Rattle.code_engine.specs.Elimination.{eliminated_to}
use Rattle.solve.proofs.eliminate_columns.Given as goal

abbrev pub invariant-loop-j : goal.invariant-loop-j
invariant-loop-j l = l.rows ≡ eliminated_to 8 285 l.initial.rows l.t l.j
