use Rattle.byte_edition.specs.EditionLaws.{bytes-sound}
use Rattle.code_services.specs.RepairOrderLaws.{contract}
use Rattle.repair_order.proofs.repair_then_recover.Goals as goal

pub returns : goal.returns
returns c =
    let a = c.args in
    let E = c.recover.ensures in
    let q = contract bytes-sound a.m a.w a.c a.list.now a.word.now a.marks.now _ _ _ _ c.recover.result (λ p. (c.slice_known-1.given p).fits)
    c.repair_list.ensures E.answer E.word E.marks in
    record { answer = q.0; word = q.1.0; marks = q.1.1.0; as_at_once = q.1.1.1.0; same_word = q.1.1.1.1.0; same_marks = q.1.1.1.1.1 }
