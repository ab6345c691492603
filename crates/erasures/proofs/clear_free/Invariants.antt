use Rattle.code_engine.specs.BoundGroups.{BoundUpTo}
use Rattle.erasures.proofs.clear_free.Given as goal

abbrev pub invariant-loop-g : goal.invariant-loop-g
invariant-loop-g l = BoundUpTo l.g l.w l.c l.initial.marks l.marks
