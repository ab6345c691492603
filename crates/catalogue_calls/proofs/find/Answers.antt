use Rattle.std.proofs.Common.{sym, ◌∙◌}
use Rattle.answers.specs.AnswersLaws.{passed}
use Rattle.catalogue_calls.specs.Laws.{find-bad, find-unnamed, find-good}
use Rattle.catalogue_scan.specs.BufferLaws.{found-at, not-found-at}
use Rattle.catalogue_calls.proofs.find.Goals as goal

pub returns-in_err-found : goal.returns-in_err-found
returns-in_err-found c =
    let a = c.args in
    let p = not-found-at a.buffer.now a.size a.name.now _ _ c.scan_buffer.ensures c.ok_or.ensures.value c.in_err-found.was in
    rw (passed c.from_residual.ensures, p.1) record { number = find-bad a.buffer.now a.size a.name.now p.0; found = tt }

pub returns-then-not-is_name : goal.returns-then-not-is_name
returns-then-not-is_name c =
    let a = c.args in
    let p = found-at a.buffer.now a.size a.name.now _ _ c.scan_buffer.ensures c.ok_or.ensures.value c.in_ok-found.was in
    record { number = find-unnamed a.buffer.now a.size a.name.now p.whole (sym c.is_name.ensures ∙ c.if-not-is_name.true); found = tt }

pub returns : goal.returns
returns c =
    let a = c.args in
    let p = found-at a.buffer.now a.size a.name.now _ _ c.scan_buffer.ensures c.ok_or.ensures.value c.in_ok-found.was in
    let g = sym c.is_name.ensures ∙ c.if-not-is_name.false in
    record { number = find-good a.buffer.now a.size a.name.now p.whole g; found = (p, g) }
