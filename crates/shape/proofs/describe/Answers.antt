use Rattle.std.proofs.Common.{refl, sym, arith}
use Rattle.code.specs.LimitsLaws.{good-of-refusal}
use Rattle.answers.specs.AnswersLaws.{passed}
use Rattle.answers.specs.Figures.{described_in, figures_in}
use Rattle.shape.specs.Laws.{places-small, described-refused}
use Rattle.shape.proofs.describe.Goals as goal

pub returns-in_err-shape_refusal : goal.returns-in_err-shape_refusal
returns-in_err-shape_refusal g c =
    let d = described-refused g.E.Edition.limits _ _ _ _ c.in_err-shape_refusal.ensures in
    rw (passed c.from_residual.ensures) record { answer = d.0; number = c.in_err-shape_refusal.ensures; figures = d.1 }

pub overflow_mul-result : goal.overflow_mul-result
overflow_mul-result g c =
    let a = c.args in
    let k = good-of-refusal {L = g.E.Edition.limits} a.m a.w a.c (sym c.in_ok-shape_refusal.ensures) in
    omega (arith, places-small k g.E.Edition.few_groups g.E.Edition.narrow)

pub data_count-requires : goal.data_count-requires
data_count-requires g c =
    let a = c.args in
    let k = good-of-refusal {L = g.E.Edition.limits} a.m a.w a.c (sym c.in_ok-shape_refusal.ensures) in
    record { few_groups = omega (arith, k.few, g.E.Edition.few_groups); narrow = omega (arith, k.narrow, g.E.Edition.narrow) }

pub sure_count-requires : goal.sure_count-requires
sure_count-requires g c =
    let a = c.args in
    let k = good-of-refusal {L = g.E.Edition.limits} a.m a.w a.c (sym c.in_ok-shape_refusal.ensures) in
    omega (arith, k.few-checks, g.E.Edition.few_checks)

pub returns : goal.returns
unfolding described_in figures_in
returns g c =
    let z = sym c.in_ok-shape_refusal.ensures in
    record { answer = rw z (cc); number = rw z refl; figures = rw z (cc) }
