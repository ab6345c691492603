use Rattle.wide_shape.specs.Edition.{wide_edition}
use Rattle.code_loops.specs.RepairLaws.{Repairing}
use Rattle.wide_services.proofs.repair_list.Given as goal

abbrev pub invariant-loop-g : goal.invariant-loop-g
invariant-loop-g l = Repairing wide_edition l.m l.w l.c l.list l.initial.word l.initial.marks l.g-index l.word l.marks
