use Rattle.std.proofs.Common.{sym, arith, length-take-le}
use Rattle.release.proofs.Steps.{lent_none, smaller-le, lent}
use Rattle.release.proofs.lend.Goals as goal

pub returns-then-out-eq0 : goal.returns-then-out-eq0
returns-then-out-eq0 c = let a = c.args in lent_none a.text.now a.out.now (omega arith)

pub slice_bounds-put_text-end : goal.slice_bounds-put_text-end
slice_bounds-put_text-end c =
    let l = c.smaller-n in sym (length-take-le _ _ (smaller-le _ _ l.result l.ensures))

pub bounds-out-end : goal.bounds-out-end
bounds-out-end c =
    let p = c.put_text-end in
    let a = c.args in
    (lent a.text.now a.out.now p.new.out c.smaller-n.result p.result (omega arith) c.smaller-n.ensures p.ensures.next p.ensures.out).0

pub returns : goal.returns
returns c =
    let p = c.put_text-end in
    let a = c.args in
    (lent a.text.now a.out.now p.new.out c.smaller-n.result p.result (omega arith) c.smaller-n.ensures p.ensures.next p.ensures.out).1
