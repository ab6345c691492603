use Rattle.std.proofs.Common.{arith, length}
use Rattle.block_rebuild.specs.ColumnsLaws.{word-is}
use Rattle.block_rebuild.proofs.gather.Goals as goal

pub returns : goal.returns
returns c =
    let l = c.loop-p in
    let a = c.args in
    word-is (length a.word.now) a.size a.blocks.now a.x l.word l.auto.word (λ p h. l.invariant p (omega arith))
