use Rattle.std.proofs.Common.{refl}
use Rattle.binary_field.specs.Xor.{◌⊕◌, masked}
use Rattle.binary_field.specs.Product.{double, bit_sum, product}
use Rattle.binary_field.specs.Power.{power}
use Rattle.wide_field.specs.LocatorRow.{locator_row}
use Rattle.wide_across.specs.PairsLaws.{row_right, pair_right, mixed, row-rule}
use Rattle.wide_across.proofs.coefficients.Goals as goal

pub returns : goal.returns
unfolding row_right pair_right mixed locator_row power product bit_sum double masked ◌⊕◌
returns c = row-rule _ refl tt
