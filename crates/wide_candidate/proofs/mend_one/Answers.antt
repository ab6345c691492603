use Rattle.wide_shape.specs.Edition.{wide_edition}
use Rattle.wide_shape.specs.EditionLaws.{wide-sound}
use Rattle.wide_across.specs.Across.{wide_sums}
use Rattle.code_loops.specs.Directions.{WayIn}
use Rattle.code_loops.specs.DirectionsLaws.{one-mended}
use Rattle.wide_candidate.proofs.mend_one.Goals as goal

pub returns-clause-value : goal.returns-clause-value
returns-clause-value c =
    let W : WayIn wide_sums wide_edition c.args.m c.args.w c.args.c c.args.p c.args.bound.now _ _ =
    record { good = c.requires.0; inside = c.requires.1.1.0; few = c.requires.1.1.1.0; way = c.way-a.ensures.direction_in; sums = c.way-a.ensures.value } in
    (one-mended wide-sound W c.requires.1.1.1.1.0 c.inverse.ensures c.product-u.ensures c.product.ensures c.add_direction.ensures).1
