use Rattle.std.proofs.Common.{refl}
use Rattle.wide_shape.specs.EditionLaws.{wide-sound}
use Rattle.code_loops.specs.RebuildLaws.{rebuild-fill, rebuild-mend, rebuilt}
use Rattle.wide_candidate.proofs.rebuild.Goals as goal

pub fill_groups-requires : goal.fill_groups-requires
fill_groups-requires c =
    rebuild-fill c.requires c.copy.ensures.to_after c.clear_free.ensures refl c.blank_lost.ensures

pub mend-requires : goal.mend-requires
mend-requires c =
    rebuild-mend c.requires c.copy.ensures.to_after c.clear_free.ensures refl c.blank_lost.ensures
    c.fill_groups.ensures

pub returns-clause-candidate_in : goal.returns-clause-candidate_in
returns-clause-candidate_in c =
    rebuilt wide-sound c.requires c.copy.ensures.to_after c.clear_free.ensures refl c.blank_lost.ensures c.fill_groups.ensures
    (λ p. (c.shared_slice_known-1.given p).fits) (λ p. (c.slice_known-6-1.given p).fits) c.mend.ensures.mended_in
