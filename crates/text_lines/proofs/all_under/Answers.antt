use Rattle.std.proofs.Common.{arith}
use Rattle.text_lines.proofs.ReadSteps.{under_more, under-stop, under-end}
use Rattle.text_lines.proofs.all_under.Goals as goal

pub returns-then-bound-value_at : goal.returns-then-bound-value_at
returns-then-bound-value_at c =
    let a = c.args in
    let e = c.value_at.ensures in
    cc (under-stop a.line.now c.loop-at.at (omega arith) a.bound (omega arith))

pub loop-at-preserved : goal.loop-at-preserved
loop-at-preserved c =
    let a = c.args in
    let v = c.value_at.ensures in
    (omega arith, cc (under_more a.line.now c.loop-at.at (omega arith) a.bound (omega arith)))

pub returns : goal.returns
returns c =
    let a = c.args in
    cc (under-end a.line.now c.loop-at.at (omega arith) a.bound)
