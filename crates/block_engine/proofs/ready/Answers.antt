use Rattle.std.proofs.Common.{sym, ◌∙◌, true≢false, arith, length}
use Rattle.code.specs.LimitsLaws.{places-most}
use Rattle.block_laws.specs.Ready.{Ready}
use Rattle.block_laws.specs.ReadyLaws.{ready-word, ready-is}
use Rattle.block_laws.specs.StepsLaws.{mul-within}
use Rattle.code.specs.LentLaws.{lent}
use Rattle.answers.specs.AnswersLaws.{number-ok, number-err}
use Rattle.block_engine.proofs.ready.Goals as goal

pub returns-then-is_err : goal.returns-then-is_err
returns-then-is_err c =
    let a = c.args in record {
      ready = λ e. absurd (true≢false (sym e));
      fact = λ _ (R : Ready a.m a.w a.c a.size a.lent a.marks.now).
          (number-err c.word_refusal.result (sym c.is_err.ensures.value ∙ c.if-is_err.true))
          (c.word_refusal.ensures ∙ ready-word a.m a.w a.c a.size a.lent a.marks.now R);
    }

pub overflow_mul-all : goal.overflow_mul-all
overflow_mul-all c =
    let a = c.args in
    let L = lent a.m a.w a.c a.marks.now (sym c.word_refusal.ensures ∙ number-ok c.word_refusal.result (sym c.is_err.ensures.value ∙ c.if-is_err.false)) in
    let p = places-most L.good in
    let e = L.size in
    let z = c.if-size-gt65536.false in
    let i = mul-within (length a.marks.now) a.size 240 65536 (omega arith) (omega arith) in
    omega arith

pub returns : goal.returns
returns c =
    let a = c.args in
    let z = sym c.word_refusal.ensures ∙ number-ok c.word_refusal.result (sym c.is_err.ensures.value ∙ c.if-is_err.false) in
    let L = lent a.m a.w a.c a.marks.now z in record {
      ready = λ _. ready-is a.m a.w a.c a.size a.lent a.marks.now z c.if-size-eq0.false (let l = c.if-all-gt65536.false in omega arith) c.if-lent-all.false
          (let e = c.excess_of.ensures.value L.good L.size in let l = c.if-excess_of-gt2.false in omega arith);
      fact = λ e. absurd (true≢false e);
    }
