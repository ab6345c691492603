use Rattle.block_tables.specs.Table.{selector}
use Rattle.block_tables.proofs.selector.Goals as goal

pub returns : goal.returns
unfolding selector
returns c = cc
