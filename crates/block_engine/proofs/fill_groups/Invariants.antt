use Rattle.block_laws.specs.Steps.{GroupsFilled}
use Rattle.block_engine.proofs.fill_groups.Given as goal

abbrev pub invariant-loop-g : goal.invariant-loop-g
invariant-loop-g l = GroupsFilled l.w l.c l.size l.g l.bound l.initial.blocks l.blocks
