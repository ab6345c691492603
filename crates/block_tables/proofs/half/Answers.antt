use Rattle.std.proofs.Common.{ap, get_or}
use Rattle.block_tables.specs.Table.{halves}
use Rattle.block_tables.proofs.half.Goals as goal

pub returns : goal.returns
unfolding halves
returns c = ap (λ v. get_or halves v 0) c.from.ensures
