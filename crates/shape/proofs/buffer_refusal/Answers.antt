use Rattle.std.proofs.Common.{sym, ap, ◌∙◌, arith}
use Rattle.code.specs.Limits.{buffer_refusal_in}
use Rattle.code.specs.LimitsLaws.{good-of-word, buffers-of-good, buffers-data-length}
use Rattle.answers.specs.Answers.{refused_number}
use Rattle.answers.specs.AnswersLaws.{passed, else-first}
use Rattle.shape.proofs.buffer_refusal.Goals as goal

pub returns-in_err-word_refusal : goal.returns-in_err-word_refusal
unfolding buffer_refusal_in
returns-in_err-word_refusal g c = ap refused_number (passed c.from_residual.ensures) ∙ else-first _ c.in_err-word_refusal.ensures _

pub data_count-requires : goal.data_count-requires
data_count-requires g c =
    let a = c.args in
    let k = (good-of-word {L = g.E.Edition.limits} a.m a.w a.c a.word (sym c.in_ok-word_refusal.ensures)).0 in
    record { few_groups = omega (arith, k.few, g.E.Edition.few_groups); narrow = omega (arith, k.narrow, g.E.Edition.narrow) }

pub returns-then-symbols-data_count : goal.returns-then-symbols-data_count
returns-then-symbols-data_count g c =
    let a = c.args in
    let k = good-of-word {L = g.E.Edition.limits} a.m a.w a.c a.word (sym c.in_ok-word_refusal.ensures) in
    sym (buffers-data-length a.m a.w a.c a.word a.symbols k.0 k.1 (λ q. c.if-symbols-data_count.true (q ∙ sym c.data_count.ensures)))

pub returns : goal.returns
returns g c =
    let a = c.args in
    let k = good-of-word {L = g.E.Edition.limits} a.m a.w a.c a.word (sym c.in_ok-word_refusal.ensures) in
    sym (buffers-of-good a.m a.w a.c a.word a.symbols k.0 k.1 (c.if-symbols-data_count.false ∙ c.data_count.ensures))
