use Rattle.std.proofs.Common.{arith, refl}
use Rattle.catalogue_lines.specs.SpliceLaws.{name-room, line-put}
use Rattle.catalogue_lines.proofs.shaped_line.Goals as goal

pub put_four-end-requires : goal.put_four-end-requires
put_four-end-requires c =
    let a = c.args in
    let p = c.put_text-at in
    name-room a.name.now p.new.out p.result c.requires p.ensures.next p.ensures.out

pub bounds-bytes-end : goal.bounds-bytes-end
bounds-bytes-end c =
    let p = c.put_text-at in
    let q = c.put_four-end in
    let t = line-put c.args.name.now p.new.out p.result c.requires p.ensures.next p.ensures.out q.new.out q.result _ refl
    q.ensures.next q.ensures.out in
    t.0

pub overflow_add-result : goal.overflow_add-result
overflow_add-result c =
    let p = c.put_text-at in
    let q = c.put_four-end in
    let t = line-put c.args.name.now p.new.out p.result c.requires p.ensures.next p.ensures.out q.new.out q.result _ refl
    q.ensures.next q.ensures.out in
    omega arith

pub returns : goal.returns
returns c =
    let p = c.put_text-at in
    let q = c.put_four-end in
    let t = line-put c.args.name.now p.new.out p.result c.requires p.ensures.next p.ensures.out q.new.out q.result _ refl
    q.ensures.next q.ensures.out in
    record { size = t.1; most = omega arith; contents = t.2 }
