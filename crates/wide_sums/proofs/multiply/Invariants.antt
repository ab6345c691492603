use Rattle.std.proofs.Common.{◌≡◌, ℕ, ◌≤◌, ◌<◌, get_or}
use Rattle.code.specs.Edition.{times}
use Rattle.wide_shape.specs.Edition.{wide_edition}
use Rattle.wide_sums.proofs.multiply.Given as goal

abbrev pub invariant-loop-i : goal.invariant-loop-i
invariant-loop-i l =
    ((k : ℕ) → k < l.i → get_or l.x k 0 ≡ times wide_edition (get_or l.initial.x k 0) (get_or l.row k 0))
    × ((k : ℕ) → l.i ≤ k → get_or l.x k 0 ≡ get_or l.initial.x k 0)
