use Rattle.std.proofs.Common.{arith, refl, sym}
use Rattle.text_lines.proofs.Steps.{numbers-step}
use Rattle.text.specs.WrittenLaws.{written-nothing}
use Rattle.text.specs.Lines.{cells_of}
use Rattle.text_lines.proofs.put_numbers.Goals as goal

pub loop-x-init : goal.loop-x-init
unfolding cells_of
loop-x-init c = (refl, omega arith, sym (written-nothing _ _))

pub loop-x-preserved : goal.loop-x-preserved
loop-x-preserved c =
    let l = c.loop-x in
    let a = c.args in
    let p = c.put_number-next in
    let d = c.type_inv.numbers l.x-index in
    let s = numbers-step a.out.now l.out p.new.out a.numbers.now a.at l.next l.x-index (omega arith) (omega arith) (omega arith) l.invariant.1
    l.invariant.2 p.result (rw c.from.ensures at p.ensures.next) (rw c.from.ensures at p.ensures.out) in
    (s.2, s.0, s.1)
