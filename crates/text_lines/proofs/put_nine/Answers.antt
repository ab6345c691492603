use Rattle.std.proofs.Common.{rules}
use Rattle.text_lines.specs.WordLine.{contradictory_word_line}
use Rattle.text_lines.proofs.Steps.{Fed, nine-fed}
use Rattle.text_lines.proofs.put_nine.Goals as goal

pub bounds-out-e : goal.bounds-out-e
bounds-out-e c =
    let a = c.args in
    let p = c.put_text-a in
    let q = c.put_number-b in
    let r = c.put_number-e in
    let f : Fed a.out.now r.new.out (contradictory_word_line a.word a.group) r.result =
    nine-fed a.out.now p.new.out q.new.out r.new.out p.result q.result r.result a.word a.group c.requires
    p.ensures.next p.ensures.out q.ensures.next q.ensures.out r.ensures.next r.ensures.out in
    f.room

pub overflow_add-result : goal.overflow_add-result
overflow_add-result c =
    let a = c.args in
    let p = c.put_text-a in
    let q = c.put_number-b in
    let r = c.put_number-e in
    let f : Fed a.out.now r.new.out (contradictory_word_line a.word a.group) r.result =
    nine-fed a.out.now p.new.out q.new.out r.new.out p.result q.result r.result a.word a.group c.requires
    p.ensures.next p.ensures.out q.ensures.next q.ensures.out r.ensures.next r.ensures.out in
    search rules

pub returns : goal.returns
returns c =
    let a = c.args in
    let p = c.put_text-a in
    let q = c.put_number-b in
    let r = c.put_number-e in
    let f : Fed a.out.now r.new.out (contradictory_word_line a.word a.group) r.result =
    nine-fed a.out.now p.new.out q.new.out r.new.out p.result q.result r.result a.word a.group c.requires
    p.ensures.next p.ensures.out q.ensures.next q.ensures.out r.ensures.next r.ensures.out in
    record { size = f.size; most = f.most; out = f.holds }
