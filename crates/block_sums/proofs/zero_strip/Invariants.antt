use Rattle.std.proofs.Common.{◌≡◌, ℕ, ◌+◌, ◌*◌, ◌<◌, get_or}
use Rattle.block_sums.proofs.zero_strip.Given as goal

abbrev pub invariant-loop-i : goal.invariant-loop-i
invariant-loop-i l = ((j : ℕ) → j < l.i → (k : ℕ) → k < l.rows → get_or l.sums (k * 96 + j) 0 ≡ 0)
