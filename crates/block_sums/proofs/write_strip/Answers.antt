use Rattle.block_sums.specs.WriteLaws.{strip-more}
use Rattle.block_sums.proofs.write_strip.Goals as goal

pub loop-i-preserved : goal.loop-i-preserved
loop-i-preserved c =
    let l = c.loop-i in
    strip-more c.args.size c.args.x c.args.n l.i c.args.sums.now c.args.to c.args.blocks.now l.blocks _
    c.requires.sums_len.3 l.invariant c.copy_part.ensures
