use Rattle.std.proofs.Common.{◌≡◌, refl, sym, ◌∙◌, ◌*◌, arith, length, length-take, rules}
use Rattle.shape.specs.Shapes.{byte_limits}
use Rattle.code.specs.LentLaws.{lent}
use Rattle.code.specs.Limits.{GoodIn}
use Rattle.code.specs.LimitsLaws.{places-most, word-of-good}
use Rattle.answers.specs.AnswersLaws.{number-ok, number-err}
use Rattle.candidate.proofs.candidate.Goals as goal

pub returns-then-is_err : goal.returns-then-is_err
returns-then-is_err c =
    let a = c.args in
    let never : GoodIn byte_limits a.m a.w a.c → length a.word.now ≡ a.m * a.w → ⊥ =
    λ G e. (number-err c.word_refusal.result (sym c.is_err.ensures.value ∙ c.if-is_err.true)) (c.word_refusal.ensures ∙ word-of-good a.m a.w a.c (length a.word.now) G e) in
    record { candidate_in = λ G e _ _. absurd (never G e); value = λ G e _ _. absurd (never G e); out_len_unchanged = refl; out_unchanged = λ _. (refl, refl) }

pub returns-then-marks-word : goal.returns-then-marks-word
returns-then-marks-word c = record { candidate_in = λ _ e f _. absurd (c.if-marks-word.true (f ∙ sym e)); value = λ _ e f _. absurd (c.if-marks-word.true (f ∙ sym e)); out_len_unchanged = refl; out_unchanged = λ _. (refl, refl) }

pub returns-then-out-word : goal.returns-then-out-word
returns-then-out-word c = record { candidate_in = λ _ e _ f. absurd (c.if-out-word.true (f ∙ sym e)); value = λ _ e _ f. absurd (c.if-out-word.true (f ∙ sym e)); out_len_unchanged = refl; out_unchanged = λ _. (refl, refl) }

pub slice_bounds-bound-end : goal.slice_bounds-bound-end
slice_bounds-bound-end c =
    let L = let a = c.args in lent a.m a.w a.c a.word.now (sym c.word_refusal.ensures ∙ number-ok c.word_refusal.result (sym c.is_err.ensures.value ∙ c.if-is_err.false)) in
    let l = places-most L.good in
    omega arith

pub slice_bounds-rebuild-end : goal.slice_bounds-rebuild-end
slice_bounds-rebuild-end c =
    let L = let a = c.args in lent a.m a.w a.c a.word.now (sym c.word_refusal.ensures ∙ number-ok c.word_refusal.result (sym c.is_err.ensures.value ∙ c.if-is_err.false)) in
    let l = places-most L.good in
    simp length-take (omega arith)

pub rebuild-requires : goal.rebuild-requires
rebuild-requires c =
    let L = let a = c.args in lent a.m a.w a.c a.word.now (sym c.word_refusal.ensures ∙ number-ok c.word_refusal.result (sym c.is_err.ensures.value ∙ c.if-is_err.false)) in
    let l = places-most L.good in
    record { good_in = L.good; word_len = L.size; marks_len = omega arith; bound_len = simp length-take (omega arith); out_len = omega arith }

pub returns : goal.returns
returns c =
    let L = let a = c.args in lent a.m a.w a.c a.word.now (sym c.word_refusal.ensures ∙ number-ok c.word_refusal.result (sym c.is_err.ensures.value ∙ c.if-is_err.false)) in
    record { candidate_in = search rules; value = search rules; out_len_unchanged = search rules; out_unchanged = λ k. absurd (k L.good L.size (omega arith) (omega arith)) }
