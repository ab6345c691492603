use Rattle.std.proofs.Common.{lit<}
use Rattle.solve.proofs.Laws.{scaled-by-one}
use Rattle.solve.proofs.normalize.Goals as goal

pub returns-else-d-ne1 : goal.returns-else-d-ne1
returns-else-d-ne1 c = scaled-by-one 8 285 (lit< tt) c.args.row.now (λ i. c.fits-row i) _ c.if-d-ne1.false
