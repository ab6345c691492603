use Rattle.std.proofs.Common.{rules}
use Rattle.text.specs.Lines.{line_of}
use Rattle.text_lines.proofs.Steps.{Fed, line_first, line-fed}
use Rattle.text_lines.proofs.put_line.Goals as goal

pub put_numbers-end-requires : goal.put_numbers-end-requires
put_numbers-end-requires c =
    let a = c.args in
    let n = c.put_text-at in
    line_first a.out.now a.name.now a.numbers.now n.new.out n.result c.requires n.ensures.next n.ensures.out

pub bounds-out-end : goal.bounds-out-end
bounds-out-end c =
    let a = c.args in
    let n = c.put_text-at in
    let u = c.put_numbers-end in
    let f : Fed a.out.now u.new.out (line_of a.name.now a.numbers.now) u.result =
    line-fed a.out.now a.name.now a.numbers.now n.new.out u.new.out n.result u.result c.requires n.ensures.next
    n.ensures.out u.ensures.next u.ensures.out in
    f.room

pub overflow_add-result : goal.overflow_add-result
overflow_add-result c =
    let a = c.args in
    let n = c.put_text-at in
    let u = c.put_numbers-end in
    let f : Fed a.out.now u.new.out (line_of a.name.now a.numbers.now) u.result =
    line-fed a.out.now a.name.now a.numbers.now n.new.out u.new.out n.result u.result c.requires n.ensures.next
    n.ensures.out u.ensures.next u.ensures.out in
    search rules

pub returns : goal.returns
returns c =
    let a = c.args in
    let n = c.put_text-at in
    let u = c.put_numbers-end in
    let f : Fed a.out.now u.new.out (line_of a.name.now a.numbers.now) u.result =
    line-fed a.out.now a.name.now a.numbers.now n.new.out u.new.out n.result u.result c.requires n.ensures.next
    n.ensures.out u.ensures.next u.ensures.out in
    record { size = f.size; most = f.most; out = f.holds }
