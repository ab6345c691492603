use Rattle.code_loops.specs.CopyLaws.{Copied}
use Rattle.places.proofs.copy_data.Given as goal

abbrev pub invariant-loop-g : goal.invariant-loop-g
invariant-loop-g g l = Copied g.E.Edition.ZERO l.m l.w l.c l.word l.symbols l.i l.g
