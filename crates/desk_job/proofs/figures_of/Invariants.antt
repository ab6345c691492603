use Rattle.std.proofs.Common.{◌≡◌, ◌*◌, ◌≤◌}
use Rattle.shape.specs.Shapes.{byte_limits}
use Rattle.code.specs.Lent.{LentIn}
use Rattle.desk_job.specs.Figures.{lost_counts}
use Rattle.code.specs.Marks as Marks
use Rattle.desk_job.proofs.figures_of.Given as goal

abbrev pub invariant-loop-g : goal.invariant-loop-g
invariant-loop-g l = LentIn byte_limits l.m l.w l.c l.marks × (l.excess ≤ 16 * l.g) × (l.lost ≡ lost_counts l.g l.w l.marks)
    × (l.excess ≡ Marks.excess l.g l.w l.c l.marks)
