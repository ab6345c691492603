use Rattle.std.proofs.Common.{ap, ◌%◌}
use Rattle.binary_field.specs.Xor.{◌⊕◌}
use Rattle.wide_field.specs.CarryLess.{multiple, reduced}
use Rattle.wide_field.proofs.reduced.Goals as goal

pub returns : goal.returns
unfolding multiple reduced ◌⊕◌
returns c = ap (λ q. (c.args.p ⊕ multiple q) % 65536) c.quotient-q.ensures.value
