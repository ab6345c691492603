use Rattle.std.proofs.Common.{drop, arith, ◌+◌, ◌-◌, ◌≡◌}
use Rattle.catalogue_lines.specs.SpliceLaws.{move-none, up_more}
use Rattle.catalogue_lines.proofs.move_up.Goals as goal

pub loop-i-init : goal.loop-i-init
loop-i-init c =
    let a = c.args in (omega arith, move-none a.buffer.now (a.to + (a.end - a.from)) a.end (drop a.end a.buffer.now))

pub loop-i-preserved : goal.loop-i-preserved
loop-i-preserved c =
    let l = c.loop-i in
    let a = c.args in
    let e : a.to + (l.i - a.from) - 1 ≡ a.to + (l.i - 1 - a.from) = omega arith in
    let u = up_more a.buffer.now l.buffer a.from a.end a.to l.i (omega arith) (omega arith) (omega arith) (omega arith) _ (omega arith) l.invariant.1 in
    (omega arith, rw e at u)
