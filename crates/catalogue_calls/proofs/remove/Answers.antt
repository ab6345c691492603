use Rattle.std.proofs.Common.{sym, ◌∙◌}
use Rattle.answers.specs.AnswersLaws.{passed}
use Rattle.catalogue_calls.specs.Laws.{spot, remove-unfound, remove-none, remove-other, remove-change}
use Rattle.catalogue_calls.proofs.remove.Goals as goal

pub returns-in_err-found : goal.returns-in_err-found
returns-in_err-found c =
    let a = c.args in
    let t = remove-unfound a.name.now a.expected a.buffer.now a.size _ c.in_err-found.ensures.number in
    rw (passed c.from_residual.ensures) record { number = t.0; figures = t.1.0; buffer = t.1.1 }

pub returns-then-found-eq0 : goal.returns-then-found-eq0
returns-then-found-eq0 c =
    let a = c.args in
    let p = c.in_ok-found.ensures.found in
    let t = remove-none a.name.now a.expected a.buffer.now a.size p.0.whole p.1
    (sym (spot _ a.buffer.now a.size a.name.now p.0).m ∙ c.if-found-eq0.true) in
    record { number = t.0; figures = t.1.0; buffer = t.1.1 }

pub returns-then-from-expected : goal.returns-then-from-expected
returns-then-from-expected c =
    let a = c.args in
    let p = c.in_ok-found.ensures.found in
    let s = spot _ a.buffer.now a.size a.name.now p.0 in
    let t = remove-other a.name.now a.expected a.buffer.now a.size p.0.whole p.1
    (λ z. c.if-found-eq0.false (s.m ∙ z)) (λ z. c.if-from-expected.true (c.from.ensures ∙ s.revision ∙ z)) in
    record { number = t.0; figures = t.1.0; buffer = t.1.1 }

pub returns : goal.returns
returns c =
    let a = c.args in
    let p = c.in_ok-found.ensures.found in
    let s = spot _ a.buffer.now a.size a.name.now p.0 in
    let t = remove-change a.name.now a.expected a.buffer.now a.size p.0.whole p.1
    (λ z. c.if-found-eq0.false (s.m ∙ z)) (sym s.revision ∙ sym c.from.ensures ∙ c.if-from-expected.false) c.change.result _ c.change.ensures in
    record { number = t.0; figures = t.1.0; buffer = t.1.1 }
