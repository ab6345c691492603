use Rattle.std.proofs.Common.{◌∙◌, arith}
use Rattle.syndrome.specs.PartsLaws.{padded-plain}
use Rattle.syndrome.proofs.padded_sums.Goals as goal

pub returns : goal.returns
returns c =
    let a = c.args in
    c.plain_sums-2.ensures ∙ padded-plain c.padded-x.ensures (omega arith) a.c
