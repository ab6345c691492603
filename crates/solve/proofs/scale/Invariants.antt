use Rattle.std.proofs.Common.{◌≡◌, ◌++◌, length, take, drop}
use Rattle.code_engine.specs.Elimination.{scaled}
use Rattle.solve.proofs.scale.Given as goal

abbrev pub invariant-loop-x : goal.invariant-loop-x
invariant-loop-x l = (length l.row ≡ 16) × (take l.x-index l.row ++ scaled 8 285 l.f (drop l.x-index l.row) ≡ scaled 8 285 l.f l.initial.row)
