use Rattle.wide_shape.specs.Edition.{wide_edition}
use Rattle.wide_shape.specs.EditionLaws.{wide-sound}
use Rattle.wide_across.specs.Across.{wide_sums}
use Rattle.code_loops.specs.Directions.{WayIn}
use Rattle.code_loops.specs.DirectionsLaws.{two-apart, two-mended}
use Rattle.wide_candidate.proofs.mend_two.Goals as goal

pub two_unknowns-u-requires : goal.two_unknowns-u-requires
two_unknowns-u-requires c =
    let W : WayIn wide_sums wide_edition c.args.m c.args.w c.args.c c.args.p c.args.bound.now _ _ =
    record { good = c.requires.0; inside = c.requires.1.1.0.0; few = c.requires.1.1.1.0; way = c.way-a.ensures.direction_in; sums = c.way-a.ensures.value } in
    let V : WayIn wide_sums wide_edition c.args.m c.args.w c.args.c c.args.q c.args.bound.now _ _ =
    record { good = c.requires.0; inside = c.requires.1.1.0.1; few = c.requires.1.1.1.1.0; way = c.way-b.ensures.direction_in; sums = c.way-b.ensures.value } in
    two-apart wide-sound W V c.requires.1.1.0.2

pub returns-clause-value : goal.returns-clause-value
returns-clause-value c =
    let W : WayIn wide_sums wide_edition c.args.m c.args.w c.args.c c.args.p c.args.bound.now _ _ =
    record { good = c.requires.0; inside = c.requires.1.1.0.0; few = c.requires.1.1.1.0; way = c.way-a.ensures.direction_in; sums = c.way-a.ensures.value } in
    let V : WayIn wide_sums wide_edition c.args.m c.args.w c.args.c c.args.q c.args.bound.now _ _ =
    record { good = c.requires.0; inside = c.requires.1.1.0.1; few = c.requires.1.1.1.1.0; way = c.way-b.ensures.direction_in; sums = c.way-b.ensures.value } in
    (two-mended wide-sound W V c.requires.1.1.1.1.1.0 c.two_unknowns-u.ensures c.add_direction.ensures c.add_direction-2.ensures).1
