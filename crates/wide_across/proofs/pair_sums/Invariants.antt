use Rattle.std.proofs.Common.{◌≡◌, ◌+◌, ◌*◌, get_or}
use Rattle.binary_field.specs.Sum.{sum_below}
use Rattle.wide_across.proofs.pair_sums.Given as goal

abbrev pub invariant-loop-i : goal.invariant-loop-i
invariant-loop-i l = (l.first ≡ sum_below l.i (λ j. get_or l.z (2 * j) 0)) × (l.second ≡ sum_below l.i (λ j. get_or l.z (2 * j + 1) 0))
