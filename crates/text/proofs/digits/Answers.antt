use Rattle.std.proofs.Common.{arith}
use Rattle.text.proofs.FieldSteps.{digits_more, digits-stop, digits-end}
use Rattle.text.proofs.digits.Goals as goal

pub returns-then-bound-a : goal.returns-then-bound-a
returns-then-bound-a c =
    let g = c.args in
    let e = c.digit_after-a.ensures in
    record { value = cc (digits-stop g.bound g.field.now c.loop-x.x-index (omega arith) c.loop-x.a (omega arith)); most = omega arith }

pub loop-x-preserved : goal.loop-x-preserved
loop-x-preserved c =
    let g = c.args in
    let e = c.digit_after-a.ensures in
    (omega arith, cc (digits_more g.bound g.field.now c.loop-x.x-index (omega arith) c.loop-x.a (omega arith)))

pub returns : goal.returns
returns c =
    let g = c.args in
    record { value = cc (digits-end g.bound g.field.now c.loop-x.x-index (omega arith) c.loop-x.a); most = omega arith }
