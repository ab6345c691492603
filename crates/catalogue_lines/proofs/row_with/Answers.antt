use Rattle.std.proofs.Common.{arith}
use Rattle.catalogue_lines.specs.SpliceLaws.{row_put}
use Rattle.catalogue_lines.proofs.row_with.Goals as goal

pub returns : goal.returns
returns c =
    let a = c.args in
    let p = c.put_text-at in
    let q = c.put_number-next in
    let r = c.put_text-end in
    let s = row_put a.front.now a.back.now p.new.out q.new.out r.new.out p.result q.result r.result a.number
    c.requires.0
    c.requires.1
    (omega arith) p.ensures.next p.ensures.out q.ensures.next q.ensures.out r.ensures.next r.ensures.out in
    record { size = s.0; most = s.1; contents = s.2 }
