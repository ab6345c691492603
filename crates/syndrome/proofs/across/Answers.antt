use Rattle.std.proofs.Common.{refl, sym, ap₂, ◌∙◌, length}
use Rattle.code.specs.LentLaws.{lent}
use Rattle.code.specs.LimitsLaws.{word-of-good}
use Rattle.code_engine.specs.HornerLaws.{first_rows, second-rows}
use Rattle.answers.specs.AnswersLaws.{number-ok, number-err}
use Rattle.syndrome.proofs.across.Goals as goal

pub returns-then-is_err : goal.returns-then-is_err
returns-then-is_err c =
    let a = c.args in
    record { value = λ good size. absurd (number-err c.word_refusal.result (sym c.is_err.ensures.value ∙ c.if-is_err.true) (c.word_refusal.ensures ∙ word-of-good a.m a.w a.c (length a.word.now) good size)); value_2 = λ _. refl }

-- past the first test the shape is good, and the word has its length
pub rows_of-r-requires : goal.rows_of-r-requires
rows_of-r-requires c =
    let a = c.args in
    let L = lent a.m a.w a.c a.word.now (sym c.word_refusal.ensures ∙ number-ok c.word_refusal.result (sym c.is_err.ensures.value ∙ c.if-is_err.false)) in
    record { good_in = L.good; word_len = L.size }

pub row_sums-requires : goal.row_sums-requires
row_sums-requires c =
    let a = c.args in
    let L = lent a.m a.w a.c a.word.now (sym c.word_refusal.ensures ∙ number-ok c.word_refusal.result (sym c.is_err.ensures.value ∙ c.if-is_err.false)) in
    (L.good.narrow, L.good.checked, L.good.few-checks)

pub returns : goal.returns
returns c =
    let a = c.args in
    let L = lent a.m a.w a.c a.word.now (sym c.word_refusal.ensures ∙ number-ok c.word_refusal.result (sym c.is_err.ensures.value ∙ c.if-is_err.false)) in
    let R = c.rows_of-r.ensures in
    record {
      value = λ _ _. c.row_sums.ensures ∙ ap₂ (λ v u. record { first = v; second = u }) (first_rows R a.c) (second-rows R a.c);
      value_2 = λ n. absurd (n L.good L.size);
    }
