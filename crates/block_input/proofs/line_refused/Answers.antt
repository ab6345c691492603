use Rattle.std.proofs.Common.{sym, ap, ◌∙◌, cond, ◌≤◌, length, eq-eqb, ne_eqb}
use Rattle.block_input.specs.Lines.{after_line}
use Rattle.block_input.specs.LinesLaws.{line-lent}
use Rattle.block_input.specs.Head.{later_line}
use Rattle.block_input.specs.HeadLaws.{start_fits, part-is, first_read}
use Rattle.block_input.proofs.line_refused.Goals as goal

pub slice_bounds-read_shape-end : goal.slice_bounds-read_shape-end
slice_bounds-read_shape-end c =
    let f = c.before in line-lent f.args.input.now f.line_end-end.result f.line_end-end.ensures

pub returns-then-line-ne0 : goal.returns-then-line-ne0
returns-then-line-ne0 c =
    let m = c.before.before in
    let e = m.before.before in
    let a = e.args in
    let s = m.read_shape-line.result in
    ap (λ b. cond b (later_line s.m s.w s.c (after_line a.input.now)) 1) (sym (ne_eqb s.refusal 0 c.if-line-ne0.true))
    ∙ first_read a.input.now e.line_end-end.result e.line_end-end.ensures s m.read_shape-line.ensures

-- the next line starts inside the input
fits : (t : goal.After-next_start-start) → let f = t.before.before.before.before.before in t.next_start-start.result ≤ length f.args.input.now
fits t =
    let f = t.before.before.before.before.before in
    start_fits f.args.input.now f.line_end-end.result f.line_end-end.ensures t.next_start-start.result t.next_start-start.ensures

pub slice_bounds-later_line-count : goal.slice_bounds-later_line-count
slice_bounds-later_line-count c = fits c

pub slice_bounds-later_line-start : goal.slice_bounds-later_line-start
slice_bounds-later_line-start c = fits c

pub returns : goal.returns
returns c =
    let n = c.before.before in
    let i = n.before in
    let m = i.before.before in
    let e = m.before.before in
    let x = e.args.input.now in
    let s = m.read_shape-line.result in
    c.later_line.ensures
    ∙ ap (later_line s.m s.w s.c) (part-is x e.line_end-end.result e.line_end-end.ensures n.next_start-start.result n.next_start-start.ensures)
    ∙ ap (λ b. cond b (later_line s.m s.w s.c (after_line x)) 1) (sym (eq-eqb s.refusal 0 i.if-line-ne0.false))
    ∙ first_read x e.line_end-end.result e.line_end-end.ensures s m.read_shape-line.ensures
