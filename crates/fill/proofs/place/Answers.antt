use Rattle.std.proofs.Common.{refl, sym, add-one, arith, length-set}
use Rattle.code_engine.specs.PlacedLaws.{placed-none, placed-suc}
use Rattle.fill.proofs.place.Goals as goal

pub loop-i-init : goal.loop-i-init
loop-i-init c = (refl, sym (placed-none _ _ _))

pub loop-i-preserved : goal.loop-i-preserved
loop-i-preserved c =
    let a = c.args in (simp length-set (omega arith), cc (placed-suc a.part.now a.at a.rows c.loop-i.i, add-one c.loop-i.i))
