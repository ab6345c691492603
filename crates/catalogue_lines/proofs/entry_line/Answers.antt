use Rattle.std.proofs.Common.{subst}
use Rattle.catalogue_lines.specs.Splice.{HoldsRow}
use Rattle.catalogue_lines.specs.SpliceLaws.{gone-is, shaped-is}
use Rattle.catalogue_lines.proofs.entry_line.Goals as goal

pub returns-then-m-eq0 : goal.returns-then-m-eq0
returns-then-m-eq0 c =
    let a = c.args in
    subst (HoldsRow c.row_with.result) (gone-is a.name.now a.revision a.m a.w a.c c.if-m-eq0.true) c.row_with.ensures

pub returns : goal.returns
returns c =
    let a = c.args in
    subst (HoldsRow c.shaped_line.result) (shaped-is a.name.now a.revision a.m a.w a.c c.if-m-eq0.false) c.shaped_line.ensures
