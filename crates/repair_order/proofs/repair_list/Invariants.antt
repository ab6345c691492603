use Rattle.byte_edition.specs.Edition.{byte_edition}
use Rattle.code_loops.specs.RepairLaws.{Repairing}
use Rattle.repair_order.proofs.repair_list.Given as goal

abbrev pub invariant-loop-g : goal.invariant-loop-g
invariant-loop-g l = Repairing byte_edition l.m l.w l.c l.list l.initial.word l.initial.marks l.g-index l.word l.marks
