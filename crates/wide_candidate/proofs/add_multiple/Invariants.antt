use Rattle.wide_shape.specs.Edition.{wide_edition}
use Rattle.code_loops.specs.Directions.{AddTurn}
use Rattle.wide_candidate.proofs.add_multiple.Given as goal

abbrev pub invariant-loop-i : goal.invariant-loop-i
invariant-loop-i l = AddTurn wide_edition l.u l.h l.initial.part l.part l.i
