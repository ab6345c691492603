use Rattle.code_loops.specs.Blank.{BlankTurn}
use Rattle.erasures.proofs.blank_lost.Given as goal

abbrev pub invariant-loop-p : goal.invariant-loop-p
invariant-loop-p g l = BlankTurn l.zero l.marks l.word l.base l.p
