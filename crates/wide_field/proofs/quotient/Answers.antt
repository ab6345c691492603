use Rattle.std.proofs.Common.{refl}
use Rattle.binary_field.specs.Xor.{◌⊕◌}
use Rattle.wide_field.specs.CarryLess.{quotient}
use Rattle.wide_field.proofs.quotient.Goals as goal

pub returns-clause-value : goal.returns-clause-value
unfolding quotient ◌⊕◌
returns-clause-value c = refl
