use Rattle.std.proofs.Common.{rules, ◌≡◌, refl, sym, ◌∙◌, ◌*◌, arith, length, length-take}
use Rattle.code.specs.Limits.{GoodIn}
use Rattle.code.specs.LimitsLaws.{places-most, word-of-good}
use Rattle.wide_shape.specs.Edition.{wide_limits}
use Rattle.answers.specs.AnswersLaws.{number-err}
use Rattle.code_loops.specs.TestedByLaws.{lent-ok}
use Rattle.wide_candidate.proofs.candidate.Goals as goal

pub returns-then-is_err : goal.returns-then-is_err
returns-then-is_err c =
    let a = c.args in
    let never : GoodIn wide_limits a.m a.w a.c → length a.word.now ≡ a.m * a.w → ⊥ =
    λ G e. number-err c.word_refusal.result (sym c.is_err.ensures.value ∙ c.if-is_err.true)
    (c.word_refusal.ensures ∙ word-of-good a.m a.w a.c (length a.word.now) G e) in
    record { candidate_in = λ G e _ _. absurd (never G e); value = λ G e _ _. absurd (never G e); out_len_unchanged = refl; out_unchanged = λ _. (refl, refl) }

pub rebuild-requires : goal.rebuild-requires
rebuild-requires c =
    let a = c.args in
    let L = lent-ok a.m a.w a.c a.word.now c.word_refusal.result c.word_refusal.ensures c.is_err.ensures.value c.if-is_err.false in
    (L.good, (L.size, (omega arith, (simp length-take (omega arith), omega arith))))

pub returns-then-n-le64 : goal.returns-then-n-le64
returns-then-n-le64 c =
    let a = c.args in
    let L = lent-ok a.m a.w a.c a.word.now c.word_refusal.result c.word_refusal.ensures c.is_err.ensures.value c.if-is_err.false in
    record {
      candidate_in = search rules;
      value = search rules;
      out_len_unchanged = search rules;
      out_unchanged = λ k. absurd (k L.good L.size (omega arith) (omega arith));
    }

pub slice_bounds-bound-end : goal.slice_bounds-bound-end
slice_bounds-bound-end c =
    let a = c.args in
    let L = lent-ok a.m a.w a.c a.word.now c.word_refusal.result c.word_refusal.ensures c.is_err.ensures.value c.if-is_err.false in
    let l = places-most L.good in
    omega arith

pub slice_bounds-rebuild-end-2 : goal.slice_bounds-rebuild-end-2
slice_bounds-rebuild-end-2 c =
    let a = c.args in
    let L = lent-ok a.m a.w a.c a.word.now c.word_refusal.result c.word_refusal.ensures c.is_err.ensures.value c.if-is_err.false in
    let l = places-most L.good in
    simp length-take (omega arith)

pub rebuild-requires-2 : goal.rebuild-requires-2
rebuild-requires-2 c =
    let a = c.args in
    let L = lent-ok a.m a.w a.c a.word.now c.word_refusal.result c.word_refusal.ensures c.is_err.ensures.value c.if-is_err.false in
    let l = places-most L.good in
    (L.good, (L.size, (omega arith, (simp length-take (omega arith), omega arith))))

pub returns : goal.returns
returns c =
    let a = c.args in
    let L = lent-ok a.m a.w a.c a.word.now c.word_refusal.result c.word_refusal.ensures c.is_err.ensures.value c.if-is_err.false in
    record {
      candidate_in = search rules;
      value = search rules;
      out_len_unchanged = search rules;
      out_unchanged = λ k. absurd (k L.good L.size (omega arith) (omega arith));
    }
