use Rattle.std.proofs.Common.{◌∙◌, arith}
use Rattle.code.specs.Edition.{raised}
use Rattle.byte_edition.specs.Edition.{byte_edition}
use Rattle.byte_edition.specs.PaddedLaws.{padded-group}
use Rattle.fill.proofs.equations.Goals as goal

pub returns : goal.returns
returns c e l =
    let q = c.equations_of-2.ensures e l in record {
      left = q.left;
      right = q.right ∙ padded-group c.padded-x.ensures (omega arith) (λ j. raised byte_edition (byte_edition.locator j) e);
    }
