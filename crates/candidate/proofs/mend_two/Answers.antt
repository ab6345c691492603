use Rattle.std.proofs.Common.{ap, ◌∙◌, ◌*◌, length}
use Rattle.code_engine.specs.SolvedLaws.{combined-length}
use Rattle.byte_edition.specs.Edition.{byte_edition}
use Rattle.byte_edition.specs.EditionLaws.{bytes-sound}
use Rattle.syndrome.specs.Across.{byte_sums}
use Rattle.code_loops.specs.Directions.{WayIn}
use Rattle.code_loops.specs.DirectionsLaws.{place-group, two-apart, two-mended}
use Rattle.candidate.proofs.mend_two.Goals as goal

pub weights-a-requires : goal.weights-a-requires
weights-a-requires c = record { good_in = c.requires.good_in; g_lt_m = place-group c.requires.good_in c.requires.p_bound.0; zero_from = c.way-h.ensures.zero_from }

pub weights-b-requires : goal.weights-b-requires
weights-b-requires c = record { good_in = c.requires.good_in; g_lt_m = place-group c.requires.good_in c.requires.p_bound.1; zero_from = c.way-k.ensures.zero_from }

pub two_unknowns-u-requires : goal.two_unknowns-u-requires
two_unknowns-u-requires c =
    let W : WayIn byte_sums byte_edition c.args.m c.args.w c.args.c c.args.p c.args.bound.now _ _ = record {
      good = c.requires.good_in;
      inside = c.requires.p_bound.0;
      few = c.requires.bound_few;
      way = c.way-h.ensures.direction_in;
      sums = c.weights-a.ensures;
    } in
    let V : WayIn byte_sums byte_edition c.args.m c.args.w c.args.c c.args.q c.args.bound.now _ _ = record {
      good = c.requires.good_in;
      inside = c.requires.p_bound.1;
      few = c.requires.bound_few_2;
      way = c.way-k.ensures.direction_in;
      sums = c.weights-b.ensures;
    } in
    two-apart bytes-sound W V c.requires.p_bound.2

pub add_direction-requires : goal.add_direction-requires
add_direction-requires c =
    record { w_bound = c.requires.good_in.narrow; g_lt_m = place-group c.requires.good_in c.requires.p_bound.0; word_len = c.requires.word_len }

pub add_direction-requires-2 : goal.add_direction-requires-2
add_direction-requires-2 c =
    let n = ap length c.add_direction.ensures ∙ combined-length byte_edition (c.args.m * c.args.w) 1 _ _ _ in
    record { w_bound = c.requires.good_in.narrow; g_lt_m = place-group c.requires.good_in c.requires.p_bound.1; word_len = n }

pub returns : goal.returns
returns c =
    let W : WayIn byte_sums byte_edition c.args.m c.args.w c.args.c c.args.p c.args.bound.now _ _ = record {
      good = c.requires.good_in;
      inside = c.requires.p_bound.0;
      few = c.requires.bound_few;
      way = c.way-h.ensures.direction_in;
      sums = c.weights-a.ensures;
    } in
    let V : WayIn byte_sums byte_edition c.args.m c.args.w c.args.c c.args.q c.args.bound.now _ _ = record {
      good = c.requires.good_in;
      inside = c.requires.p_bound.1;
      few = c.requires.bound_few_2;
      way = c.way-k.ensures.direction_in;
      sums = c.weights-b.ensures;
    } in
    let r = two-mended bytes-sound W V c.requires.s_value c.two_unknowns-u.ensures
    c.add_direction.ensures c.add_direction-2.ensures in
    record { mended_two_in = r.0; value = r.1 }
