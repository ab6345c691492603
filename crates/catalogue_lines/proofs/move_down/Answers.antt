use Rattle.std.proofs.Common.{drop, arith}
use Rattle.catalogue_lines.specs.SpliceLaws.{move-none, down-more}
use Rattle.catalogue_lines.proofs.move_down.Goals as goal

pub loop-i-init : goal.loop-i-init
loop-i-init c = let a = c.args in move-none a.buffer.now a.to a.from (drop a.from a.buffer.now)

pub loop-i-preserved : goal.loop-i-preserved
loop-i-preserved c =
    let l = c.loop-i in
    let a = c.args in
    down-more a.buffer.now l.buffer a.from a.end a.to l.i (omega arith) (omega arith) (omega arith) l.invariant
