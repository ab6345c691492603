use Rattle.std.proofs.Common.{◌≡◌, ◌+◌, ◌*◌, get_or}
use Rattle.binary_field.specs.Product.{product}
use Rattle.binary_field.specs.Sum.{sum_below}
use Rattle.wide_across.proofs.sparse_sums.Given as goal

abbrev pub invariant-loop-j : goal.invariant-loop-j
invariant-loop-j l = (l.first ≡ sum_below l.j (λ k. product 16 69643 (get_or l.part k 0) (get_or l.row (2 * k) 0)))
    × (l.second ≡ sum_below l.j (λ k. product 16 69643 (get_or l.part k 0) (get_or l.row (2 * k + 1) 0)))
