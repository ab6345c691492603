use Rattle.std.proofs.Common.{◌≡◌, sym, subst, ◌≤◌, arith}
use Rattle.code_engine.specs.Elimination.{pivot}
use Rattle.solve.proofs.Laws.{search-on, search-found, search-end}
use Rattle.solve.proofs.pivot.Goals as goal

pub returns-then-rows-i-ne0 : goal.returns-then-rows-i-ne0
unfolding pivot
returns-then-rows-i-ne0 c =
    let a = c.args in
    record { some = (cc (search-found a.rows.now a.j a.t c.loop-i.i (omega arith) c.if-rows-i-ne0.true), omega arith); none = tt }

pub loop-i-preserved : goal.loop-i-preserved
loop-i-preserved c =
    let a = c.args in
    cc (search-on a.rows.now a.j a.t c.loop-i.i (omega arith) c.if-rows-i-ne0.false)

pub returns : goal.returns
unfolding pivot
returns c =
    let a = c.args in
    let e : c.loop-i.i ≡ a.t = omega arith in
    let p : a.t ≡ pivot a.rows.now a.j a.t = cc (search-end a.rows.now a.j a.t c.loop-i.i (omega arith)) in
    record { some = tt; none = omega (arith, p) }
