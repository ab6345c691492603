use Rattle.byte_edition.specs.Edition.{byte_edition}
use Rattle.code_loops.specs.Directions.{AddTurn}
use Rattle.candidate.proofs.add_multiple.Given as goal

abbrev pub invariant-loop-i : goal.invariant-loop-i
invariant-loop-i l = AddTurn byte_edition l.u l.h l.initial.part l.part l.i
