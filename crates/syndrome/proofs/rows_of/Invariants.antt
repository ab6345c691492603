use Rattle.std.proofs.Common.{◌-◌}
use Rattle.shape.specs.Shapes.{byte_limits}
use Rattle.code.specs.Lent.{LentIn}
use Rattle.byte_edition.specs.Edition.{byte_edition}
use Rattle.code_engine.specs.Horner.{HornerRows}
use Rattle.syndrome.proofs.rows_of.Given as goal

abbrev pub invariant-loop-g : goal.invariant-loop-g
invariant-loop-g l = LentIn byte_limits l.m l.w l.c l.word × HornerRows byte_edition l.w l.word l.g (l.m - l.g) l.plain l.weighted
