use Rattle.std.proofs.Common.{sym, arith}
use Rattle.byte_edition.specs.Edition.{byte_edition}
use Rattle.answers.specs.AnswersLaws.{passed}
use Rattle.code_loops.specs.JudgeLaws.{check-refused, check-yes, check-no, group-few}
use Rattle.word_check.proofs.check.Goals as goal

pub returns-in_err-word_refusal : goal.returns-in_err-word_refusal
returns-in_err-word_refusal c =
    let q = check-refused byte_edition _ _ _ _ c.in_err-word_refusal.ensures in
    rw (passed c.from_residual.ensures) record { answer = q.0; number = q.1.0; figures = q.1.1 }

pub overflow_cast-result : goal.overflow_cast-result
overflow_cast-result c =
    omega (arith, group-few byte_edition _ _ _ _ (sym c.in_ok-word_refusal.ensures) c.test-tested.ensures.value)

pub returns-then-tested : goal.returns-then-tested
returns-then-tested c =
    let q = check-yes byte_edition _ _ _ _ (sym c.in_ok-word_refusal.ensures) c.test-tested.ensures.value
    (λ p. (c.shared_slice_known-1.given p).fits) c.if-tested.true in
    record { answer = q.0; number = q.1.0; figures = q.1.1 }

pub returns : goal.returns
returns c =
    let q = check-no byte_edition _ _ _ _ (sym c.in_ok-word_refusal.ensures) c.test-tested.ensures.value
    (λ p. (c.shared_slice_known-1.given p).fits) c.if-tested.false in
    record { answer = q.0; number = q.1.0; figures = q.1.1 }
