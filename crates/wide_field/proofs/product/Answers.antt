use Rattle.std.proofs.Common.{ap, ◌∙◌, arith}
use Rattle.wide_field.specs.CarryLess.{reduced}
use Rattle.wide_field.specs.CarryLessLaws.{reduced-product}
use Rattle.wide_field.proofs.product.Goals as goal

pub returns : goal.returns
returns c =
    let k = c.args in
    c.reduced.ensures ∙ ap reduced c.carry_less.ensures ∙ reduced-product k.a k.b (omega arith) (omega arith)
