use Rattle.std.proofs.Common.{◌≡◌, get_or}
use Rattle.binary_field.specs.Sum.{sum_below}
use Rattle.gf256.proofs.sum.Given as goal

abbrev pub invariant-loop-x : goal.invariant-loop-x
invariant-loop-x l = l.r ≡ sum_below l.x-index (λ j. get_or l.u j 0)
