use Rattle.block_laws.specs.ReadyLaws.{lowest-is}
use Rattle.block_engine.proofs.lowest_by.Goals as goal

pub returns : goal.returns
returns c =
    let a = c.args in
    lowest-is a.m a.w a.c a.size a.blocks.now a.marks.now _ c.requires.ready c.requires.bound_all
    (λ i. (c.shared_slice_known-1.given i).fits) _ c.requires.across_rows c.test_groups-limit.result _ c.test_groups-limit.ensures
    c.test_across.ensures
