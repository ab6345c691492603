use Rattle.wide_shape.specs.Edition.{wide_edition}
use Rattle.code_loops.specs.FillGroups.{FillTurn}
use Rattle.wide_candidate.proofs.fill_groups.Given as goal

abbrev pub invariant-loop-g : goal.invariant-loop-g
invariant-loop-g l = FillTurn wide_edition l.m l.w l.c l.bound l.initial.base l.base l.g
