use Rattle.std.proofs.Common.{sym, ap, ◌∙◌, arith}
use Rattle.code.specs.LimitsLaws.{good-of-refusal}
use Rattle.answers.specs.Answers.{refused_number}
use Rattle.answers.specs.AnswersLaws.{passed}
use Rattle.code_loops.specs.RecoverLaws.{marks-by-shape, marks-beside}
use Rattle.shape.specs.Laws.{places-small}
use Rattle.marks.proofs.marks_refusal.Goals as goal

pub returns-in_err-shape_refusal : goal.returns-in_err-shape_refusal
returns-in_err-shape_refusal g c =
    ap refused_number (passed c.from_residual.ensures) ∙ marks-by-shape g.E.Edition.limits _ _ _ _ _ c.in_err-shape_refusal.ensures

pub overflow_mul-m : goal.overflow_mul-m
overflow_mul-m g c =
    let a = c.args in
    let k = good-of-refusal {L = g.E.Edition.limits} a.m a.w a.c (sym c.in_ok-shape_refusal.ensures) in
    omega (arith, places-small k g.E.Edition.few_groups g.E.Edition.narrow)

pub returns : goal.returns
returns g c = marks-beside g.E.Edition.limits _ _ _ _ c.in_ok-shape_refusal.ensures c.beside_refusal.ensures
