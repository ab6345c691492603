use Rattle.std.proofs.Common.{[], arith}
use Rattle.answers.specs.AnswersLaws.{passed}
use Rattle.catalogue_compact.specs.Laws.{compact-bad, lines_at, compact-none, compacts}
use Rattle.catalogue_scan.specs.BufferLaws.{found-at, not-found-at}
use Rattle.catalogue_lines.specs.SpliceLaws.{row_line}
use Rattle.catalogue_compact.proofs.compact.Goals as goal

pub returns-in_err-found : goal.returns-in_err-found
returns-in_err-found c =
    let a = c.args in
    let p = not-found-at a.buffer.now a.size [] _ _ c.scan_buffer.ensures c.ok_or.ensures.value c.in_err-found.was in
    let t = compact-bad a.buffer.now a.size p.0 in
    rw (passed c.from_residual.ensures, p.1) record { number = t.0; figures = t.1.0; buffer = t.1.1 }

pub returns-then-found-eq0 : goal.returns-then-found-eq0
returns-then-found-eq0 c =
    let a = c.args in
    let p = found-at a.buffer.now a.size [] _ _ c.scan_buffer.ensures c.ok_or.ensures.value c.in_ok-found.was in
    let t = compact-none _ a.buffer.now a.size [] p c.if-found-eq0.true in
    record { number = t.0; figures = t.1.0; buffer = t.1.1 }

pub drop_gone-end-requires : goal.drop_gone-end-requires
drop_gone-end-requires c =
    let a = c.args in
    lines_at _ a.buffer.now a.size [] (found-at a.buffer.now a.size [] _ _ c.scan_buffer.ensures c.ok_or.ensures.value c.in_ok-found.was)

pub splice-requires : goal.splice-requires
splice-requires c =
    let a = c.args in
    let p = found-at a.buffer.now a.size [] _ _ c.scan_buffer.ensures c.ok_or.ensures.value c.in_ok-found.was in
    let d = c.drop_gone-end.ensures in
    rw (row_line c.first_line-row.result _ c.first_line-row.ensures)
    (compacts _ a.buffer.now a.size [] p c.if-found-eq0.false _ c.max.ensures _ _ d.end d.buffer).fits

pub overflow_add-result : goal.overflow_add-result
overflow_add-result c =
    let a = c.args in
    let p = found-at a.buffer.now a.size [] _ _ c.scan_buffer.ensures c.ok_or.ensures.value c.in_ok-found.was in
    let d = c.drop_gone-end.ensures in
    let k = compacts _ a.buffer.now a.size [] p c.if-found-eq0.false _ c.max.ensures _ _ d.end d.buffer in
    omega arith

pub returns : goal.returns
returns c =
    let a = c.args in
    let p = found-at a.buffer.now a.size [] _ _ c.scan_buffer.ensures c.ok_or.ensures.value c.in_ok-found.was in
    let d = c.drop_gone-end.ensures in
    let k = compacts _ a.buffer.now a.size [] p c.if-found-eq0.false _ c.max.ensures _ _ d.end d.buffer in
    let s = c.splice in
    let t = k.done s.new.buffer (rw (row_line c.first_line-row.result _ c.first_line-row.ensures) at s.ensures) in
    rw c.first_line-row.ensures.size (record { number = t.0; figures = t.1.0; buffer = t.1.1 })
