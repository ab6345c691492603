use Rattle.std.proofs.Common.{refl}
use Rattle.bench_field.specs.Tables.{logs}
use Rattle.bench_field.proofs.logs.Goals as goal

pub returns : goal.returns
unfolding logs
returns c = refl
