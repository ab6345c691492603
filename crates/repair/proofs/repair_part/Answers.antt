use Rattle.std.proofs.Common.{◌≡◌, List, ℕ, ◌≤◌, ◌<◌, arith, length, length-take, get_or}
use Rattle.byte_edition.specs.Edition.{byte_edition}
use Rattle.byte_edition.specs.EditionLaws.{bytes-sound}
use Rattle.code_loops.specs.RepairLaws.{Part, few-lost, part-eight, part-nine, part-mended}
use Rattle.repair.proofs.repair_part.Goals as goal

-- the stretch with its marks
part_of : {c : ℕ} {part marks : List ℕ} → 0 < length part → length part ≤ 16 → c ≤ 4 → length marks ≡ length part
    → ((p : ℕ) → get_or part p 0 < 256) → Part byte_edition c part marks
part_of wide narrow few size small = record { wide = wide; narrow = narrow; few-checks = few; size = size; small = small }

pub returns-then-c-lost_in : goal.returns-then-c-lost_in
returns-then-c-lost_in c =
    let p = c.requires in
    let given = part_of p.part_nonzero p.part_len_bound p.c_bound p.marks_len (λ i. (c.slice_known-1.given i).fits) in
    let q = part-eight given c.lost_in.ensures bytes-sound _ c.if-c-lost_in.true in
    record { answers_by = q.0; part_after = q.1.0; marks_after = q.1.1 }

pub attempt-done-requires : goal.attempt-done-requires
attempt-done-requires c =
    let p = c.requires in
    let given = part_of p.part_nonzero p.part_len_bound p.c_bound p.marks_len (λ i. (c.slice_known-1.given i).fits) in
    record {
      part_nonzero = p.part_nonzero;
      part_len_bound = p.part_len_bound;
      c_bound = p.c_bound;
      marks_len = p.marks_len;
      found_len = simp length-take (omega arith);
      marks_bound = few-lost given c.lost_in.ensures c.if-c-lost_in.false;
    }

pub returns-then-not-done : goal.returns-then-not-done
returns-then-not-done c =
    let p = c.requires in
    let given = part_of p.part_nonzero p.part_len_bound p.c_bound p.marks_len (λ i. (c.slice_known-1.given i).fits) in
    let n = c.if-not-done.true in
    let q = part-nine given c.lost_in.ensures bytes-sound _ c.if-c-lost_in.false c.attempt-done.ensures n (c.clear_if.ensures.buffer_unchanged n) in
    record { answers_by = q.0; part_after = q.1.0; marks_after = q.1.1 }

pub returns : goal.returns
returns c =
    let p = c.requires in
    let given = part_of p.part_nonzero p.part_len_bound p.c_bound p.marks_len (λ i. (c.slice_known-1.given i).fits) in
    let y = c.if-not-done.false in
    let q = part-mended given c.lost_in.ensures bytes-sound _ c.if-c-lost_in.false c.attempt-done.ensures y (c.clear_if.ensures.buffer_after y) in
    record { answers_by = q.0; part_after = q.1.0; marks_after = q.1.1 }
