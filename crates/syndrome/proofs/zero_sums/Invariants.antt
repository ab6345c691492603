use Rattle.std.proofs.Common.{◌≡◌, ℕ, ◌<◌, length}
use Rattle.byte_edition.specs.Edition.{byte_edition}
use Rattle.code.specs.Word.{local_sum}
use Rattle.syndrome.proofs.zero_sums.Given as goal

abbrev pub invariant-loop-e : goal.invariant-loop-e
invariant-loop-e l = (k : ℕ) → k < l.e → local_sum byte_edition (length l.part) l.part 0 k ≡ 0
