use Rattle.std.proofs.Common.{sym, add-one}
use Rattle.code_engine.specs.PlacedLaws.{placed-none, placed-suc}
use Rattle.wide_solve.specs.Column.{column_of}
use Rattle.wide_solve.specs.ColumnLaws.{column-at}
use Rattle.wide_solve.proofs.place.Goals as goal

pub loop-i-init : goal.loop-i-init
loop-i-init c = sym (placed-none _ _ _)

pub loop-i-preserved : goal.loop-i-preserved
loop-i-preserved c =
    let a = c.args in
    cc (placed-suc a.part.now a.at (column_of a.u) c.loop-i.i, column-at a.u c.loop-i.i, add-one c.loop-i.i)
