use Rattle.std.proofs.Common.{arith}
use Rattle.wide_solve.specs.OneLaws.{summed_at}
use Rattle.wide_solve.proofs.fill_one.Goals as goal

pub returns : goal.returns
returns c = let a = c.args in summed_at a.part.now a.p _ (omega arith) c.sum-s.ensures
