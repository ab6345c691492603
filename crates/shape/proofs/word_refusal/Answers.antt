use Rattle.std.proofs.Common.{sym, ap, ◌∙◌, arith}
use Rattle.code.specs.Limits.{word_refusal_in}
use Rattle.code.specs.LimitsLaws.{good-of-refusal, word-of-good, word-length}
use Rattle.answers.specs.Answers.{refused_number}
use Rattle.answers.specs.AnswersLaws.{passed, else-first}
use Rattle.shape.specs.Laws.{places-small}
use Rattle.shape.proofs.word_refusal.Goals as goal

pub returns-in_err-shape_refusal : goal.returns-in_err-shape_refusal
unfolding word_refusal_in
returns-in_err-shape_refusal g c = ap refused_number (passed c.from_residual.ensures) ∙ else-first _ c.in_err-shape_refusal.ensures _

pub overflow_mul-m : goal.overflow_mul-m
overflow_mul-m g c =
    let a = c.args in
    let k = good-of-refusal {L = g.E.Edition.limits} a.m a.w a.c (sym c.in_ok-shape_refusal.ensures) in
    omega (arith, places-small k g.E.Edition.few_groups g.E.Edition.narrow)

pub returns-then-word-m : goal.returns-then-word-m
returns-then-word-m g c =
    let a = c.args in
    let k = good-of-refusal {L = g.E.Edition.limits} a.m a.w a.c (sym c.in_ok-shape_refusal.ensures) in
    sym (word-length a.m a.w a.c a.word k c.if-word-m.true)

pub returns : goal.returns
returns g c =
    let a = c.args in
    let k = good-of-refusal {L = g.E.Edition.limits} a.m a.w a.c (sym c.in_ok-shape_refusal.ensures) in
    sym (word-of-good a.m a.w a.c a.word k c.if-word-m.false)
