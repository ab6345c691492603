use Rattle.std.proofs.Common.{◌≡◌, sym, ap, ◌∙◌, subst, arith, T, length}
use borrow.Author.Tests.{not-true, not-false}
use Rattle.shape.specs.Shapes.{byte_limits}
use Rattle.byte_edition.specs.Edition.{byte_edition}
use Rattle.code.proofs.ContradictionLaws.{whole-groups}
use Rattle.answers.specs.declared.Tested.{Tested}
use Rattle.code_engine.specs.Tests.{broken_group_in, tested_in}
use Rattle.code_engine.specs.TestsLaws.{broken-most}
use Rattle.answers.specs.AnswersLaws.{passed}
use Rattle.edit.specs.Laws.{good-of-number}
use Rattle.edit.specs.Edit.{number_refusal_in}
use Rattle.edit.proofs.Laws.{sold-of-number, edit-refused, edit-contradictory, edit-done}
use Rattle.edit.proofs.edit.Goals as goal

pub returns-in_err-refusal : goal.returns-in_err-refusal
returns-in_err-refusal c =
    let a = c.args in
    let q = edit-refused a.m a.w a.c a.word.now a.number a.byte _ c.in_err-refusal.ensures in
    rw (passed c.from_residual.ensures) record { answer = q.0; number = q.1.0; word = q.1.1 }

pub overflow_cast-result : goal.overflow_cast-result
overflow_cast-result c =
    let fair : let a = c.args in number_refusal_in byte_limits a.m a.w a.c (length a.word.now) a.number ≡ 0 =
    sym c.in_ok-refusal.ensures in
    let found : let a = c.args in c.test-tested.result ≡ tested_in byte_edition a.m a.w a.c a.word.now =
    let a = c.args in let g = good-of-number a.m a.w a.c (length a.word.now) a.number fair in c.test-tested.ensures.value g.0 g.1 in
    let a = c.args in
    let g = good-of-number a.m a.w a.c (length a.word.now) a.number fair in
    omega (arith, ap (λ (x : Tested). x.group) found, broken-most byte_edition a.m a.w a.c a.word.now, g.0.few)

pub returns-then-not-tested : goal.returns-then-not-tested
unfolding broken_group_in
returns-then-not-tested c =
    let fair : let a = c.args in number_refusal_in byte_limits a.m a.w a.c (length a.word.now) a.number ≡ 0 =
    sym c.in_ok-refusal.ensures in
    let found : let a = c.args in c.test-tested.result ≡ tested_in byte_edition a.m a.w a.c a.word.now =
    let a = c.args in let g = good-of-number a.m a.w a.c (length a.word.now) a.number fair in c.test-tested.ensures.value g.0 g.1 in
    let a = c.args in
    let g = good-of-number a.m a.w a.c (length a.word.now) a.number fair in
    let q = edit-contradictory a.m a.w a.c a.word.now a.number a.byte fair _
    (sym (ap (λ (x : Tested). x.codeword) found) ∙ not-true _ c.if-not-tested.true)
    (ap (λ (x : Tested). x.group) found ∙ whole-groups byte_edition a.m a.w a.c a.word.now g.1 (λ p. (c.slice_known-1.given p).fits)) in
    record { answer = q.0; number = q.1.0; word = q.1.1 }

pub change-requires : goal.change-requires
change-requires c =
    let fair : let a = c.args in number_refusal_in byte_limits a.m a.w a.c (length a.word.now) a.number ≡ 0 =
    sym c.in_ok-refusal.ensures in
    let found : let a = c.args in c.test-tested.result ≡ tested_in byte_edition a.m a.w a.c a.word.now =
    let a = c.args in let g = good-of-number a.m a.w a.c (length a.word.now) a.number fair in c.test-tested.ensures.value g.0 g.1 in
    let a = c.args in
    let g = good-of-number a.m a.w a.c (length a.word.now) a.number fair in
    let s = sold-of-number a.m a.w a.c (length a.word.now) a.number fair in
    record { good_in = g.0; c_bound = s.few-checks; word_len = g.1; number_bound = g.2; t = subst T (sym (not-false _ c.if-not-tested.false) ∙ ap (λ (x : Tested). x.codeword) found) tt }

pub returns : goal.returns
returns c =
    let fair : let a = c.args in number_refusal_in byte_limits a.m a.w a.c (length a.word.now) a.number ≡ 0 =
    sym c.in_ok-refusal.ensures in
    let found : let a = c.args in c.test-tested.result ≡ tested_in byte_edition a.m a.w a.c a.word.now =
    let a = c.args in let g = good-of-number a.m a.w a.c (length a.word.now) a.number fair in c.test-tested.ensures.value g.0 g.1 in
    let a = c.args in
    let q = edit-done a.m a.w a.c a.word.now a.number a.byte fair _
    (sym (ap (λ (x : Tested). x.codeword) found) ∙ not-false _ c.if-not-tested.false) c.change.ensures in
    record { answer = q.0; number = q.1.0; word = q.1.1 }
