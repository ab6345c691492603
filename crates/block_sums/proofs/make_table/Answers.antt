use Rattle.block_tables.specs.TableLaws.{table-made}
use Rattle.block_sums.proofs.make_table.Goals as goal

pub returns : goal.returns
returns c =
    table-made _ _ _ _ _ _ _ _ _ _ c.requires.table
    c.load.ensures c.more_rows.ensures c.more_rows-2.ensures
    c.more_rows-3.ensures c.requires.n_bound.1 c.requires.n_bound.0
