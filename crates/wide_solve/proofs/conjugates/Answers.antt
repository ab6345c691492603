use Rattle.std.proofs.Common.{refl}
use Rattle.wide_solve.specs.Norm.{conjugate_row}
use Rattle.wide_solve.proofs.conjugates.Goals as goal

pub returns : goal.returns
unfolding conjugate_row
returns c = refl
