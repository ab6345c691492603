use Rattle.std.proofs.Common.{length-take-le, sym, ◌∙◌}
use Rattle.catalogue_scan.specs.ScanLaws.{read_none, read_some}
use Rattle.catalogue_scan.proofs.right_line.Goals as goal

pub returns-in_err-read : goal.returns-in_err-read
returns-in_err-read c =
    let a = c.args in
    c.from_residual.ensures ∙ sym (read_none a.last.now a.line.now (sym c.read_line.ensures ∙ c.in_err-read.was))

pub slice_bounds-is_before-end : goal.slice_bounds-is_before-end
slice_bounds-is_before-end c =
    let a = c.args in
    sym (length-take-le c.in_ok-read.read.size a.line.now (read_some a.last.now a.line.now _ (sym c.read_line.ensures ∙ c.in_ok-read.was)).0)

pub returns-then-is_before : goal.returns-then-is_before
returns-then-is_before c =
    let a = c.args in
    sym ((read_some a.last.now a.line.now _ (sym c.read_line.ensures ∙ c.in_ok-read.was)).1 ∙ rw (sym c.is_before.ensures ∙ c.if-is_before.true))

pub returns-else-is_before : goal.returns-else-is_before
returns-else-is_before c =
    let a = c.args in
    sym ((read_some a.last.now a.line.now _ (sym c.read_line.ensures ∙ c.in_ok-read.was)).1 ∙ rw (sym c.is_before.ensures ∙ c.if-is_before.false))
