use Rattle.std.proofs.Common.{◌≡◌, ℕ, ◌-◌, ◌<◌, length, get_or}
use Rattle.code.specs.Word.{local_sum}
use Rattle.wide_shape.specs.Edition.{wide_edition}
use Rattle.wide_sums.specs.PowerSums.{Raised}
use Rattle.wide_sums.proofs.gather.Given as goal

abbrev pub invariant-loop-e : goal.invariant-loop-e
invariant-loop-e l =
    (length l.sums ≡ 6) × Raised (l.e - 1) l.initial.x l.x
    × ((k : ℕ) → k < l.e → get_or l.sums k 0 ≡ local_sum wide_edition (length l.initial.x) l.initial.x 0 k)
