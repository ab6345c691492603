use Rattle.std.proofs.Common.{◌≡◌, ◌++◌, length, take, drop}
use Rattle.code_engine.specs.Elimination.{added}
use Rattle.solve.proofs.add.Given as goal

abbrev pub invariant-loop-c : goal.invariant-loop-c
invariant-loop-c l = (length l.row ≡ 16) × (take l.c l.row ++ added 8 285 l.f (drop l.c l.row) (drop l.c l.b) ≡ added 8 285 l.f l.initial.row l.b)
