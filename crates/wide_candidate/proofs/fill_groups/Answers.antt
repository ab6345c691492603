use Rattle.std.proofs.Common.{rules}
use Rattle.wide_shape.specs.EditionLaws.{wide-sound}
use Rattle.code_loops.specs.FillGroupsLaws.{fill-turn}
use Rattle.wide_candidate.proofs.fill_groups.Goals as goal

pub loop-g-preserved : goal.loop-g-preserved
loop-g-preserved c =
    fill-turn c.loop-g.invariant wide-sound (search rules) c.loop-g-test.true c.fill.ensures
