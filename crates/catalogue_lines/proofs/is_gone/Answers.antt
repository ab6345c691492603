use Rattle.std.proofs.Common.{arith, sym, ◌∙◌}
use Rattle.catalogue_lines.proofs.Steps.{gone-none, gone-some}
use Rattle.catalogue_lines.proofs.is_gone.Goals as goal

pub returns-then-line-at : goal.returns-then-line-at
returns-then-line-at c = let a = c.args in sym (gone-none a.line.now a.at (omega arith))

pub returns : goal.returns
returns c =
    let a = c.args in
    c.is_same.ensures ∙ sym (gone-some a.line.now a.at (omega arith))
