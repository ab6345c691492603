use Rattle.std.proofs.Common.{refl}
use Rattle.byte_edition.specs.EditionLaws.{bytes-sound}
use Rattle.code_loops.specs.RebuildLaws.{rebuild-fill, rebuild-mend, rebuilt}
use Rattle.candidate.proofs.rebuild.Goals as goal

pub fill_groups-requires : goal.fill_groups-requires
fill_groups-requires c =
    let r = c.requires in
    let q = rebuild-fill (r.good_in, (r.word_len, (r.marks_len, (r.bound_len, r.out_len)))) c.copy.ensures.to_after c.clear_free.ensures refl c.blank_lost.ensures in
    record { good_in = q.0; base_len = q.1.0; bound_len = q.1.1.0; by_index = q.1.1.1 }

pub mend-requires : goal.mend-requires
mend-requires c =
    let r = c.requires in
    let q = rebuild-mend (r.good_in, (r.word_len, (r.marks_len, (r.bound_len, r.out_len)))) c.copy.ensures.to_after c.clear_free.ensures refl c.blank_lost.ensures
    c.fill_groups.ensures in
    record { good_in = q.0; word_len = q.1.0; marks_len = q.1.1.0; bound_all = q.1.1.1 }

pub returns : goal.returns
returns c =
    let r = c.requires in
    record {
      candidate_in = rebuilt bytes-sound (r.good_in, (r.word_len, (r.marks_len, (r.bound_len, r.out_len)))) c.copy.ensures.to_after c.clear_free.ensures refl c.blank_lost.ensures c.fill_groups.ensures
          (λ p. (c.shared_slice_known-1.given p).fits) (λ p. (c.slice_known-6-1.given p).fits) c.mend.ensures.mended_in;
      value = c.mend.ensures.value;
    }
