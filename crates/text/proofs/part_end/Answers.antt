use Rattle.std.proofs.Common.{arith, ◌≡◌}
use Rattle.text.specs.FieldLaws.{end-found, end_more, end-here}
use Rattle.text.proofs.part_end.Goals as goal

pub returns-then-text-i : goal.returns-then-text-i
returns-then-text-i c =
    record { end = cc (end-found c.args.sep c.args.text.now c.loop-i.i (omega arith) c.if-text-i.true); bounds = (omega arith, omega arith) }

pub loop-i-preserved : goal.loop-i-preserved
loop-i-preserved c = (omega arith, cc (end_more c.args.sep c.args.text.now c.loop-i.i (omega arith) c.if-text-i.false))

pub returns : goal.returns
returns c =
    let e : c.max.result ≡ c.loop-i.i = omega arith in
    let h = end-here c.args.sep c.args.text.now c.loop-i.i (omega arith) in
    record { end = cc (e, h); bounds = (omega arith, omega arith) }
