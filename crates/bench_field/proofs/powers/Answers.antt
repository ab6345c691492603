use Rattle.std.proofs.Common.{refl}
use Rattle.bench_field.specs.Tables.{powers}
use Rattle.bench_field.proofs.powers.Goals as goal

pub returns : goal.returns
unfolding powers
returns c = refl
