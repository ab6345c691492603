use Rattle.std.proofs.Common.{arith, sym, ◌∙◌}
use Rattle.answers.specs.AnswersLaws.{passed}
use Rattle.catalogue_calls.specs.Laws.{found-revision, put-unsold, put-unfound, put_other, put-change}
use Rattle.shape.specs.Laws.{sold-of-refusal}
use Rattle.catalogue_calls.proofs.put.Goals as goal

pub returns-in_err-sale_refusal : goal.returns-in_err-sale_refusal
returns-in_err-sale_refusal c =
    let a = c.args in
    let t = put-unsold a.m a.w a.c a.name.now a.expected a.buffer.now a.size _ c.in_err-sale_refusal.ensures in
    rw (passed c.from_residual.ensures) record { number = t.0; figures = t.1.0; buffer = t.1.1 }

pub returns-in_err-found : goal.returns-in_err-found
returns-in_err-found c =
    let a = c.args in
    let t = put-unfound a.m a.w a.c a.name.now a.expected a.buffer.now a.size (sym c.in_ok-sale_refusal.ensures) _ c.in_err-found.ensures.number in
    rw (passed c.from_residual-in_err-found.ensures) record { number = t.0; figures = t.1.0; buffer = t.1.1 }

pub returns-then-from-expected : goal.returns-then-from-expected
returns-then-from-expected c =
    let a = c.args in
    let p = c.in_ok-found.ensures.found in
    let e = c.found_revision-revision.ensures ∙ found-revision _ a.buffer.now a.size a.name.now p.0 in
    let t = put_other a.m a.w a.c a.name.now a.expected a.buffer.now a.size (sym c.in_ok-sale_refusal.ensures) p.0.whole p.1
    (λ z. c.if-from-expected.true (c.from.ensures ∙ e ∙ z)) in
    record { number = t.0; figures = t.1.0; buffer = t.1.1 }

pub overflow_cast-m : goal.overflow_cast-m
overflow_cast-m c =
    let a = c.args in
    let g = (sold-of-refusal a.m a.w a.c (sym c.in_ok-sale_refusal.ensures)).good in omega arith

pub overflow_cast-w : goal.overflow_cast-w
overflow_cast-w c =
    let a = c.args in
    let g = (sold-of-refusal a.m a.w a.c (sym c.in_ok-sale_refusal.ensures)).good in omega arith

pub overflow_cast-c : goal.overflow_cast-c
overflow_cast-c c =
    let a = c.args in
    let g = (sold-of-refusal a.m a.w a.c (sym c.in_ok-sale_refusal.ensures)).good in omega arith

pub returns : goal.returns
returns c =
    let a = c.args in
    let p = c.in_ok-found.ensures.found in
    let e = c.found_revision-revision.ensures ∙ found-revision _ a.buffer.now a.size a.name.now p.0 in
    let t = put-change a.m a.w a.c a.name.now a.expected a.buffer.now a.size (sym c.in_ok-sale_refusal.ensures) p.0.whole p.1
    (sym e ∙ sym c.from.ensures ∙ c.if-from-expected.false) c.change.result _ c.change.ensures in
    record { number = t.0; figures = t.1.0; buffer = t.1.1 }
