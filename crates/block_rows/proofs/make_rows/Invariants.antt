use Rattle.block_laws.specs.Steps.{AcrossUpTo, KeptUpTo}
use Rattle.block_rows.proofs.make_rows.Given as goal

abbrev pub invariant-loop-g : goal.invariant-loop-g
invariant-loop-g l = AcrossUpTo l.m l.w l.c l.g l.bound l.out × KeptUpTo l.w l.c l.g l.bound l.kept
