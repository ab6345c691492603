use Rattle.wide_shape.specs.Edition.{wide_edition}
use Rattle.wide_shape.specs.EditionLaws.{wide-sound}
use Rattle.code_loops.specs.RepairLaws.{Part, part-eight, part-nine, part-mended}
use Rattle.wide_services.proofs.repair_part.Goals as goal

pub returns-then-c-lost_in : goal.returns-then-c-lost_in
returns-then-c-lost_in c =
    let given : let a = c.args in Part wide_edition a.c a.part.now a.marks.now =
    let p = c.requires in record {
      wide = p.part_nonzero;
      narrow = p.part_len_bound;
      few-checks = p.c_bound;
      size = p.marks_len;
      small = λ i. (c.slice_known-1.given i).fits;
    } in
    let q = part-eight given c.lost_in.ensures wide-sound _ c.if-c-lost_in.true in
    record { answers_by = q.0; part_after = q.1.0; marks_after = q.1.1 }

pub returns-then-not-done : goal.returns-then-not-done
returns-then-not-done c =
    let given : let a = c.args in Part wide_edition a.c a.part.now a.marks.now =
    let p = c.requires in record {
      wide = p.part_nonzero;
      narrow = p.part_len_bound;
      few-checks = p.c_bound;
      size = p.marks_len;
      small = λ i. (c.slice_known-1.given i).fits;
    } in
    let n = c.if-not-done.true in
    let q = part-nine given c.lost_in.ensures wide-sound _ c.if-c-lost_in.false c.attempt-done.ensures n (c.clear_if.ensures.buffer_unchanged n) in
    record { answers_by = q.0; part_after = q.1.0; marks_after = q.1.1 }

pub returns : goal.returns
returns c =
    let given : let a = c.args in Part wide_edition a.c a.part.now a.marks.now =
    let p = c.requires in record {
      wide = p.part_nonzero;
      narrow = p.part_len_bound;
      few-checks = p.c_bound;
      size = p.marks_len;
      small = λ i. (c.slice_known-1.given i).fits;
    } in
    let y = c.if-not-done.false in
    let q = part-mended given c.lost_in.ensures wide-sound _ c.if-c-lost_in.false c.attempt-done.ensures y (c.clear_if.ensures.buffer_after y) in
    record { answers_by = q.0; part_after = q.1.0; marks_after = q.1.1 }
