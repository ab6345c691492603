use Rattle.std.proofs.Common.{arith}
use Rattle.text.proofs.CellSteps.{back_start, back-same, back_more, back_last}
use Rattle.text.proofs.write_digits.Goals as goal

pub loop-rest-init : goal.loop-rest-init
loop-rest-init c = let a = c.args in back_start a.out.now a.at a.end a.x c.requires.1 (omega arith) c.requires.0

pub overflow_sub-i : goal.overflow_sub-i
overflow_sub-i c =
    let l = c.loop-rest in
    let a = c.args in
    let b = back_more a.out.now a.at a.end a.x c.requires.1 l.out l.i l.rest l.invariant (omega arith) in
    omega (arith, b.0)

pub bounds-out-i : goal.bounds-out-i
bounds-out-i c =
    let l = c.loop-rest in
    let a = c.args in
    let b = back_more a.out.now a.at a.end a.x c.requires.1 l.out l.i l.rest l.invariant (omega arith) in
    let s = back-same a.out.now a.at a.end a.x c.requires.1 l.out l.i l.rest l.invariant in
    let e = l.invariant.ends in
    omega (arith, b.0)

pub loop-rest-preserved : goal.loop-rest-preserved
loop-rest-preserved c =
    let l = c.loop-rest in
    let a = c.args in
    (back_more a.out.now a.at a.end a.x c.requires.1 l.out l.i l.rest l.invariant (omega arith)).1

pub bounds-out-at : goal.bounds-out-at
bounds-out-at c =
    let l = c.loop-rest in
    let a = c.args in
    (back_last a.out.now a.at a.end a.x c.requires.1 l.out l.i l.rest l.invariant (omega arith)).0

pub returns : goal.returns
returns c =
    let l = c.loop-rest in
    let a = c.args in
    (back_last a.out.now a.at a.end a.x c.requires.1 l.out l.i l.rest l.invariant (omega arith)).1
