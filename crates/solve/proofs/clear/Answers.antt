use Rattle.std.proofs.Common.{ap, ◌∙◌, set}
use Rattle.code_engine.specs.Elimination.{added, row, entry}
use Rattle.solve.proofs.Laws.{clear_none, clear-pivot, clear_next, row-skip, row-add}
use Rattle.solve.proofs.clear.Goals.{then-i-j, else-i-j}
use Rattle.solve.proofs.clear.Goals as goal

pub loop-i-init : goal.loop-i-init
loop-i-init c = clear_none 8 285 _ _

pub loop-i-preserved : goal.loop-i-preserved
loop-i-preserved c =
    let M = c.args.rows.now in
    let N = c.loop-i.rows in
    let j = c.args.j in
    let i = c.loop-i.i in
    let next = clear_next 8 285 M j N i c.loop-i.invariant in
    elim c.if-i-j.branch [
      | then-i-j w ↦ w.rows-is
          ∙ ap (set N i) (w.clear_row.ensures ∙ ap (added 8 285 (entry N i j) (row N i)) (clear-pivot 8 285 M j N i c.loop-i.invariant))
          ∙ row-add 8 285 N j i w.if-i-j.true ∙ next
      | else-i-j w ↦ w.rows-is ∙ row-skip 8 285 N j i w.if-i-j.false ∙ next
    ]
