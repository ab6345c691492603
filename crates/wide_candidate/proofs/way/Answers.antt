use Rattle.std.proofs.Common.{◌≡◌, subst, List, ℕ, ◌*◌, ◌/◌, ◌%◌, ◌<◌, suc-mul, arith, length}
use Rattle.code.specs.Stretch.{stretch}
use Rattle.code.specs.StretchLaws.{stretch-length}
use Rattle.code.specs.LentLaws.{stretch-lent}
use Rattle.code.specs.Limits.{GoodIn}
use Rattle.wide_shape.specs.Edition.{wide_limits, wide_edition}
use Rattle.code_engine.specs.CandidateSteps.{DirectionIn}
use Rattle.code_engine.specs.Mended.{BoundFew}
use Rattle.code_engine.specs.CandidateStepsLaws.{group-end, way_asked}
use Rattle.wide_candidate.proofs.way.Goals as goal

part-width : (m w c p : ℕ) → GoodIn wide_limits m w c → p < m * w → (bound : List ℕ) → BoundFew m w c p bound → length (stretch w (p / w) bound) ≡ w
part-width m w c p good l bound K =
    stretch-length w (p / w) bound (let e = group-end m w c p good l in let n = suc-mul (p / w) w in let k = K.size in omega arith)

-- what is written
written : (m w c p : ℕ) → GoodIn wide_limits m w c → p < m * w → (bound h : List ℕ) → BoundFew m w c p bound
    → DirectionIn wide_edition (length (stretch w (p / w) bound)) (p % w) (stretch w (p / w) bound) h
    → DirectionIn wide_edition w (p % w) (stretch w (p / w) bound) h
written m w c p good l bound h K d =
    subst (λ n. DirectionIn wide_edition n (p % w) (stretch w (p / w) bound) h) (part-width m w c p good l bound K) d

pub direction-requires-clause-bound_bound : goal.direction-requires-clause-bound_bound
direction-requires-clause-bound_bound c =
    let a = c.args in
    let A = way_asked a.m a.w a.c a.p c.requires.good_in c.requires.p_bound a.bound.now c.requires.bound_few in
    rw (stretch-lent a.w _ a.bound.now) A.1.1.1

pub returns-clause-direction_in : goal.returns-clause-direction_in
returns-clause-direction_in c =
    let a = c.args in
    written a.m a.w a.c a.p c.requires.good_in c.requires.p_bound a.bound.now _ c.requires.bound_few
    (rw (stretch-lent a.w _ a.bound.now) at c.direction.ensures)
