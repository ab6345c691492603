use Rattle.text.proofs.CellSteps.{Back}
use Rattle.text.proofs.write_digits.Given as goal

abbrev pub invariant-loop-rest : goal.invariant-loop-rest
invariant-loop-rest l = Back l.initial.out l.at l.end l.x l.out l.i l.rest

abbrev pub decreases-loop-rest : goal.decreases-loop-rest
decreases-loop-rest l = l.rest
