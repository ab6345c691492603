use Rattle.std.proofs.Common.{refl, sym, ap, ◌∙◌, ◌<◌, arith, length}
use Rattle.code.specs.Marks.{excess}
use Rattle.code.specs.LimitsLaws.{good-of-word, word-of-good}
use Rattle.answers.specs.AnswersLaws.{number-ok, number-err}
use Rattle.code_engine.specs.GroupsLaws.{groups-whole}
use Rattle.marks.proofs.excess_of.Goals as goal

pub returns-then-is_err : goal.returns-then-is_err
returns-then-is_err c =
    let a = c.args in
    record {
      value = λ good size.
          absurd (number-err c.word_refusal.result (sym c.is_err.ensures.value ∙ c.if-is_err.true)
          (c.word_refusal.ensures ∙ word-of-good a.m a.w a.c (length a.marks.now) good size));
      value_2 = λ _. refl;
    }

pub returns : goal.returns
returns c =
    let a = c.args in
    let z = number-ok c.word_refusal.result (sym c.is_err.ensures.value ∙ c.if-is_err.false) in
    let G = good-of-word a.m a.w a.c (length a.marks.now) (sym c.word_refusal.ensures ∙ z) in
    let pos : 0 < a.w = (let h = G.0.wide in omega arith) in
    record {
      value = λ _ _. c.pattern_excess.ensures ∙ ap (λ n. excess n a.w a.c a.marks.now) (groups-whole a.m a.w pos G.1);
      value_2 = λ n. absurd (n G.0 G.1);
    }
