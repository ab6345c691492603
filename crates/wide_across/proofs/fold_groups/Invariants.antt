use Rattle.std.proofs.Common.{◌-◌}
use Rattle.code.specs.Lent.{LentIn}
use Rattle.wide_shape.specs.Edition.{wide_limits, wide_edition}
use Rattle.code_engine.specs.Horner.{HornerRows}
use Rattle.wide_across.proofs.fold_groups.Given as goal

abbrev pub invariant-loop-g : goal.invariant-loop-g
invariant-loop-g l = LentIn wide_limits l.m l.w l.c l.word × HornerRows wide_edition l.w l.word l.g (l.m - l.g) l.x l.y
