use Rattle.std.proofs.Common.{subst}
use Rattle.catalogue_lines.specs.Splice.{HoldsRow}
use Rattle.catalogue_lines.specs.SpliceLaws.{first-is}
use Rattle.catalogue_lines.proofs.first_line.Goals as goal

pub returns : goal.returns
returns c = subst (HoldsRow c.row_with.result) (first-is c.args.floor) c.row_with.ensures
