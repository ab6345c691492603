use Rattle.std.proofs.Common.{sym, ◌∙◌, subst, length, arith}
use Rattle.catalogue_scan.proofs.Steps.{step-open, step-unread, step-size, step_right, step_less}
use Rattle.catalogue_scan.specs.ScanLaws.{Scanning, scan-start, scan-done}
use Rattle.catalogue_scan.proofs.scan_lines.Goals as goal

pub loop-at-init : goal.loop-at-init
loop-at-init c =
    let a = c.args in
    subst (λ p. Scanning a.text.now a.name.now a.first a.first 0 0 p 0) (sym c.place_at-place.ensures) (scan-start a.text.now
    a.name.now a.first c.requires)

pub returns-then-text-end : goal.returns-then-text-end
returns-then-text-end c =
    let l = c.loop-at in
    let a = c.args in
    let p = c.part_end-end in
    step-open a.text.now a.name.now a.first a.floor l.at l.from l.to l.place l.top l.invariant p.result p.ensures.end
    (omega arith) (omega arith)

pub slice_bounds-right_line-count : goal.slice_bounds-right_line-count
slice_bounds-right_line-count c = let i = c.loop-at.invariant in i.order

pub slice_bounds-right_line-start : goal.slice_bounds-right_line-start
slice_bounds-right_line-start c = let i = c.loop-at.invariant in i.order

pub slice_bounds-right_line-end : goal.slice_bounds-right_line-end
slice_bounds-right_line-end c = let i = c.loop-at.invariant in i.named

pub returns-in_err-line : goal.returns-in_err-line
returns-in_err-line c =
    let l = c.loop-at in
    let a = c.args in
    let p = c.part_end-end in
    c.from_residual.ensures
    ∙ step-unread a.text.now a.name.now a.first a.floor l.at l.from l.to l.place l.top l.invariant p.result p.ensures.end
    (omega arith) (sym c.right_line.ensures ∙ c.in_err-line.was)

pub overflow_add-to : goal.overflow_add-to
overflow_add-to c =
    let p = c.part_end-end in
    let l = c.loop-at in
    let a = c.args in
    let s = step-size a.text.now a.name.now a.first a.floor l.at l.from l.to l.place l.top l.invariant p.result p.ensures.end
    c.if-text-end.false _ (sym c.right_line.ensures ∙ c.in_ok-line.was) in
    omega arith

pub slice_bounds-place_next-end : goal.slice_bounds-place_next-end
slice_bounds-place_next-end c =
    let p = c.part_end-end in
    let l = c.loop-at in
    let a = c.args in
    let s = step-size a.text.now a.name.now a.first a.floor l.at l.from l.to l.place l.top l.invariant p.result p.ensures.end
    c.if-text-end.false _ (sym c.right_line.ensures ∙ c.in_ok-line.was) in
    omega arith

pub loop-at-smaller : goal.loop-at-smaller
loop-at-smaller c =
    let p = c.part_end-end in
    step_less (length c.args.text.now) c.loop-at.at
    p.result c.loop-at-test.true p.ensures.bounds.0

pub loop-at-preserved : goal.loop-at-preserved
loop-at-preserved c =
    let l = c.loop-at in
    let a = c.args in
    let p = c.part_end-end in
    step_right a.text.now a.name.now a.first a.floor l.at l.from l.to l.place l.top l.invariant p.result p.ensures.end
    c.if-text-end.false _ (sym c.right_line.ensures ∙ c.in_ok-line.was)
    c.place_next-place.result c.place_next-place.ensures
    c.larger_gone-top.result c.larger_gone-top.ensures

pub returns : goal.returns
returns c =
    let l = c.loop-at in
    let a = c.args in
    sym (scan-done a.text.now a.name.now a.first a.floor l.at l.from l.to l.place l.top l.invariant (omega arith))
