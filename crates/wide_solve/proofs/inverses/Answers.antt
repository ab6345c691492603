use Rattle.std.proofs.Common.{refl}
use Rattle.wide_solve.specs.Small.{inverse_row}
use Rattle.wide_solve.proofs.inverses.Goals as goal

pub returns : goal.returns
unfolding inverse_row
returns c = refl
