use Rattle.std.proofs.Common.{sym, ap, ◌∙◌, cond, eq-eqb, ne_eqb}
use Rattle.block_input.specs.LinesLaws.{line-lent}
use Rattle.block_input.specs.HeadLaws.{later-read}
use Rattle.block_input.proofs.later_line.Goals as goal

pub slice_bounds-read_marks-end : goal.slice_bounds-read_marks-end
slice_bounds-read_marks-end c = line-lent c.args.rest.now c.line_end-end.result c.line_end-end.ensures

-- the marks line as it was read
pub returns-then-line-eq0 : goal.returns-then-line-eq0
returns-then-line-eq0 c =
    let a = c.args in
    let l = c.read_marks-line in
    ap (λ b. cond b 3 2) (sym (eq-eqb l.result.refusal 0 c.if-line-eq0.true))
    ∙ later-read a.rest.now c.line_end-end.result c.line_end-end.ensures a.m a.w a.c l.result l.ensures

pub returns-else-line-eq0 : goal.returns-else-line-eq0
returns-else-line-eq0 c =
    let a = c.args in
    let l = c.read_marks-line in
    ap (λ b. cond b 3 2) (sym (ne_eqb l.result.refusal 0 c.if-line-eq0.false))
    ∙ later-read a.rest.now c.line_end-end.result c.line_end-end.ensures a.m a.w a.c l.result l.ensures
