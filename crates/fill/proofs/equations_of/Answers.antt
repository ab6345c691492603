use Rattle.std.proofs.Common.{[], arith, length-set}
use Rattle.byte_edition.specs.Edition.{byte_edition}
use Rattle.code_engine.specs.ListsLaws.{each_set}
use Rattle.code_engine.specs.EquationsLaws.{EquationIn}
use Rattle.fill.proofs.equations_of.Goals as goal

pub loop-e-preserved : goal.loop-e-preserved
loop-e-preserved c =
    let a = c.args in (
      simp length-set (omega arith),
      each_set (EquationIn byte_edition a.part.now a.at a.t) c.loop-e.rows c.loop-e.e c.equation.result [] (omega arith) c.loop-e.invariant.1
          c.equation.ensures,
    )
