use Rattle.std.proofs.Common.{rules}
use Rattle.byte_edition.specs.EditionLaws.{bytes-sound}
use Rattle.code_loops.specs.FillGroupsLaws.{fill-turn}
use Rattle.candidate.proofs.fill_groups.Goals as goal

pub loop-g-preserved : goal.loop-g-preserved
loop-g-preserved c =
    fill-turn c.loop-g.invariant bytes-sound (search rules) c.loop-g-test.true c.fill.ensures
