use Rattle.std.proofs.Common.{◌≡◌, ◌∙◌, arith}
use Rattle.code_engine.specs.Elimination.{eliminated}
use Rattle.solve.proofs.Laws.{eliminate-none, eliminate-next}
use Rattle.solve.proofs.eliminate_columns.Goals as goal

pub loop-j-init : goal.loop-j-init
loop-j-init c = eliminate-none 8 285 _ _

pub loop-j-preserved : goal.loop-j-preserved
loop-j-preserved c =
    let a = c.args in
    c.eliminate_column.ensures ∙ eliminate-next 8 285 a.rows.now a.t c.loop-j.rows c.loop-j.j c.loop-j.invariant

pub returns : goal.returns
unfolding eliminated
returns c =
    let e : c.loop-j.j ≡ c.args.t = omega arith in
    cc
