use Rattle.byte_edition.specs.Edition.{byte_edition}
use Rattle.byte_edition.specs.EditionLaws.{bytes-sound}
use Rattle.syndrome.specs.Across.{byte_sums}
use Rattle.code_loops.specs.Directions.{WayIn}
use Rattle.code_loops.specs.DirectionsLaws.{place-group, one-mended}
use Rattle.candidate.proofs.mend_one.Goals as goal

pub weights-a-requires : goal.weights-a-requires
weights-a-requires c = record { good_in = c.requires.good_in; g_lt_m = place-group c.requires.good_in c.requires.p_bound; zero_from = c.way-h.ensures.zero_from }

pub add_direction-requires : goal.add_direction-requires
add_direction-requires c =
    record { w_bound = c.requires.good_in.narrow; g_lt_m = place-group c.requires.good_in c.requires.p_bound; word_len = c.requires.word_len }

pub returns : goal.returns
returns c =
    let W : WayIn byte_sums byte_edition c.args.m c.args.w c.args.c c.args.p c.args.bound.now _ _ =
    record { good = c.requires.good_in; inside = c.requires.p_bound; few = c.requires.bound_few; way = c.way-h.ensures.direction_in; sums = c.weights-a.ensures } in
    let r = one-mended bytes-sound W c.requires.s_value c.inverse.ensures c.shifted_product-u.ensures c.shifted_product.ensures
    c.add_direction.ensures in
    record { mended_one_in = r.0; value = r.1 }
