use Rattle.std.proofs.Common.{◌≡◌, ℕ, ◌+◌, ◌*◌, ◌<◌, length, get_or}
use Rattle.wide_across.proofs.pairs.Given as goal

abbrev pub invariant-loop-i : goal.invariant-loop-i
invariant-loop-i l =
    (length l.z ≡ 32) × ((k : ℕ) → k < l.i → get_or l.z (2 * k) 0 ≡ get_or l.x k 0) × ((k : ℕ) → k < l.i → get_or l.z (2 * k + 1) 0 ≡ get_or l.y k 0)
