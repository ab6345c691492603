use Rattle.std.proofs.Common.{arith}
use Rattle.binary_field.specs.XorLaws.{⊕-bits}
use Rattle.gf256.specs.RowsLaws.{sixteenths}
use Rattle.gf256.proofs.sixteenth.Goals as goal

pub returns : goal.returns
returns c =
    let a = c.args.a in
    cc (⊕-bits c.sixteenth_low.result c.sixteenth_high.result, sixteenths a (omega arith))
