use Rattle.std.proofs.Common.{◌+◌, ◌-◌, ◌*◌, ◌/◌, drop, length-take, arith}
use Rattle.code.specs.LentLaws.{stretch-lent}
use Rattle.code_engine.specs.CandidateStepsLaws.{way_asked, way-given}
use Rattle.candidate.proofs.way.Goals as goal

pub direction-requires : goal.direction-requires
direction-requires c =
    let a = c.args in
    let q = way_asked a.m a.w a.c a.p c.requires.good_in c.requires.p_bound a.bound.now c.requires.bound_few in
    rw (stretch-lent a.w _ a.bound.now) (record { bound_len_bound = q.0; j_in_bounds = q.1.0; j_value = q.1.1.0; bound_bound = q.1.1.1 })

pub returns : goal.returns
returns c =
    let a = c.args in record {
      direction_in = way-given a.m a.w a.c a.p c.requires.good_in c.requires.p_bound a.bound.now c.requires.bound_few c.direction.result
          (rw (stretch-lent a.w _ a.bound.now) at c.direction.ensures.direction_in);
      zero_from = λ i l.
          c.direction.ensures.zero_from i
          (omega (arith, length-take (a.p / a.w * a.w + a.w - a.p / a.w * a.w) (drop (a.p / a.w * a.w) a.bound.now)));
    }
