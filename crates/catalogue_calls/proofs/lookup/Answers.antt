use Rattle.std.proofs.Common.{sym, ◌∙◌}
use Rattle.answers.specs.AnswersLaws.{passed}
use Rattle.catalogue_calls.specs.Laws.{spot, looked-unfound, looked-none, looked-place}
use Rattle.catalogue_calls.proofs.lookup.Goals as goal

pub returns-in_err-place : goal.returns-in_err-place
returns-in_err-place c =
    let a = c.args in
    let t = looked-unfound a.buffer.now a.size a.name.now _ c.in_err-place.ensures.number in
    rw (passed c.from_residual.ensures) record { number = t.0; figures = t.1 }

pub returns-then-place-eq0 : goal.returns-then-place-eq0
returns-then-place-eq0 c =
    let a = c.args in
    let p = c.in_ok-place.ensures.found in
    let t = looked-none a.buffer.now a.size a.name.now p.0.whole p.1 (sym (spot _ a.buffer.now a.size a.name.now p.0).m ∙ c.if-place-eq0.true) in
    record { number = t.0; figures = t.1 }

pub returns : goal.returns
returns c =
    let a = c.args in
    let p = c.in_ok-place.ensures.found in
    let t = looked-place _ a.buffer.now a.size a.name.now p.0 p.1 c.if-place-eq0.false in
    record { number = t.0; figures = t.1 }
