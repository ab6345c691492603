use Rattle.block_constants.specs.EquationsLaws.{equation-at}
use Rattle.block_constants.proofs.equations.Goals as goal

pub returns : goal.returns
returns c =
    let a = c.args in
    λ i l j b. equation-at c.power_row-a.result c.power_row-b.result c.power_row-c.result c.power_row-d.result a.first a.second
    c.power_row-a.ensures c.power_row-b.ensures c.power_row-c.ensures c.power_row-d.ensures i l j b
