use Rattle.std.proofs.Common.{arith}
use Rattle.solve.proofs.Laws.{added-by-zero}
use Rattle.solve.proofs.clear_row.Goals as goal

pub returns-then-f-eq0 : goal.returns-then-f-eq0
returns-then-f-eq0 c = added-by-zero 8 285 c.args.row.now c.args.b.now (omega arith) _ c.if-f-eq0.true
