use Rattle.std.proofs.Common.{sym, arith}
use Rattle.text.specs.FieldLaws.{other_length}
use Rattle.text.proofs.FieldSteps.{same_more, same_stop, same_end}
use Rattle.text.proofs.is_same.Goals as goal

pub returns-then-name-wanted : goal.returns-then-name-wanted
returns-then-name-wanted c =
    let a = c.args in
    sym (other_length a.name.now a.wanted.now c.if-name-wanted.true)

pub returns-then-name-i : goal.returns-then-name-i
returns-then-name-i c =
    let a = c.args in
    cc (same_stop a.name.now a.wanted.now c.loop-i.i (omega arith) (omega arith) c.if-name-i.true)

pub loop-i-preserved : goal.loop-i-preserved
loop-i-preserved c =
    let a = c.args in
    (omega arith, omega arith, cc (same_more a.name.now a.wanted.now c.loop-i.i (omega arith) (omega arith) c.if-name-i.false))

pub returns : goal.returns
returns c =
    let a = c.args in
    cc (same_end a.name.now a.wanted.now c.loop-i.i (omega arith) (omega arith))
