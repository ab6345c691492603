use Rattle.std.proofs.Common.{◌≡◌, ◌*◌, min, length}
use Rattle.block_sums.specs.Sums.{WrittenBelow}
use Rattle.block_tables.specs.Table.{IsTables}
use Rattle.block_sums.proofs.write_strips.Given as goal

abbrev pub invariant-loop-q : goal.invariant-loop-q
invariant-loop-q l =
    (length l.t ≡ 6144) × IsTables l.t × (length l.sums ≡ 384) × WrittenBelow l.size l.initial.blocks l.first l.count l.rows l.constants l.to (min (l.q * 96) l.size) l.blocks
