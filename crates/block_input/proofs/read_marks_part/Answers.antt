use Rattle.std.proofs.Common.{ap, ◌∙◌, cond, ◌≤◌, length}
use Rattle.block_input.specs.LinesLaws.{line-lent}
use Rattle.block_input.specs.HeadLaws.{start_fits, marks-part-read}
use Rattle.block_input.proofs.read_marks_part.Goals as goal

pub slice_bounds-read_marks-end : goal.slice_bounds-read_marks-end
slice_bounds-read_marks-end c =
    let f = c.before in line-lent f.args.rest.now f.line_end-end.result f.line_end-end.ensures

-- the next line starts inside the input
fits : (t : goal.After-next_start-start) → let f = t.before.before.before in t.next_start-start.result ≤ length f.args.rest.now
fits t =
    let f = t.before.before.before in
    start_fits f.args.rest.now f.line_end-end.result f.line_end-end.ensures t.next_start-start.result t.next_start-start.ensures

pub slice_bounds-read_length_part-count : goal.slice_bounds-read_length_part-count
slice_bounds-read_length_part-count c = fits c

pub slice_bounds-read_length_part-start : goal.slice_bounds-read_length_part-start
slice_bounds-read_length_part-start c = fits c

pub returns : goal.returns
returns c =
    let i = c.before in
    let o = i.before.before in
    let s = o.before in
    let q = s.before in
    let n = q.before.before in
    let m = n.before in
    let f = m.before.before in
    let a = f.args in
    marks-part-read a.rest.now f.line_end-end.result f.line_end-end.ensures n.next_start-start.result n.next_start-start.ensures
    a.ended s.is_settled-settled.result s.is_settled-settled.ensures a.m a.w a.c m.read_marks-line.result q.read_length_part-after.result
    i.refusal_if.result
    m.read_marks-line.ensures q.read_length_part-after.ensures (i.refusal_if.ensures ∙ ap (λ r. cond s.is_settled-settled.result r 0) o.or_else-refusal.ensures)
