use Rattle.std.proofs.Common.{sym, ◌∙◌, arith}
use Rattle.answers.specs.AnswersLaws.{number-err}
use Rattle.code.specs.LentLaws.{end_fits}
use Rattle.wide_shape.specs.Edition.{wide_edition}
use Rattle.code_loops.specs.TestedLaws.{test-refused}
use Rattle.code_loops.specs.TestedByLaws.{lent-ok, part-tested, tested-by}
use Rattle.wide_across.proofs.test.Goals as goal

pub returns-then-is_err : goal.returns-then-is_err
returns-then-is_err c =
    let a = c.args in
    let r = test-refused wide_edition a.m a.w a.c a.word.now c.word_refusal.ensures
    (number-err c.word_refusal.result (sym c.is_err.ensures.value ∙ c.if-is_err.true)) in
    record { value = r.0; value_2 = r.1 }

-- past the first test the shape is good, and the word has its length
pub by-requires : goal.by-requires
by-requires c =
    let a = c.args in
    let L = lent-ok a.m a.w a.c a.word.now c.word_refusal.result c.word_refusal.ensures c.is_err.ensures.value c.if-is_err.false in
    record { groups = λ g l. end_fits L g l; across = L }

pub returns : goal.returns
returns c =
    let a = c.args in
    let L = lent-ok a.m a.w a.c a.word.now c.word_refusal.result c.word_refusal.ensures c.is_err.ensures.value c.if-is_err.false in
    let E = c.by.ensures in
    record {
      value = λ _ _. tested-by wide_edition a.m a.w a.c a.word.now E.bound (λ g l. part-tested wide_edition L g (omega arith) (E.sound g l))
          (λ l. (let q = E.broken l in (part-tested wide_edition L c.by.result.group l q.0, q.1))) E.whole;
      value_2 = λ k. absurd (k L.good L.size);
    }
