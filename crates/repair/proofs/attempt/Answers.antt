use Rattle.std.proofs.Common.{sym}
use Rattle.byte_edition.specs.Edition.{byte_edition}
use Rattle.byte_edition.specs.EditionLaws.{bytes-sound}
use Rattle.code_loops.specs.RepairLaws.{Filling, filling-failed, filling-done}
use Rattle.repair.proofs.attempt.Goals as goal

pub returns-then-not-filled_zero : goal.returns-then-not-filled_zero
returns-then-not-filled_zero c =
    let filling : let a = c.args in Filling byte_edition a.c a.part.now a.marks.now _ c.fill.new.part c.filled_zero.result =
    let p = c.requires in
    record {
      of = record {
        wide = p.part_nonzero;
        narrow = p.part_len_bound;
        few-checks = p.c_bound;
        size = p.marks_len;
        small = λ i. (c.slice_known-1.given i).fits;
      };
      few = p.marks_bound;
      copied = c.copy.ensures.to_after (sym p.found_len);
      filled = c.fill.ensures;
      small = λ i. (c.slice_known-4-1.given i).fits;
      tested = c.filled_zero.ensures.few;
      passed = c.filled_zero.ensures.many;
    } in
    filling-failed bytes-sound filling c.if-not-filled_zero.true

pub returns : goal.returns
returns c =
    let filling : let a = c.args in Filling byte_edition a.c a.part.now a.marks.now _ c.fill.new.part c.filled_zero.result =
    let p = c.requires in
    record {
      of = record {
        wide = p.part_nonzero;
        narrow = p.part_len_bound;
        few-checks = p.c_bound;
        size = p.marks_len;
        small = λ i. (c.slice_known-1.given i).fits;
      };
      few = p.marks_bound;
      copied = c.copy.ensures.to_after (sym p.found_len);
      filled = c.fill.ensures;
      small = λ i. (c.slice_known-4-1.given i).fits;
      tested = c.filled_zero.ensures.few;
      passed = c.filled_zero.ensures.many;
    } in
    filling-done bytes-sound filling c.if-not-filled_zero.false c.copy-2.ensures.to_after
