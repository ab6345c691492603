use Rattle.std.proofs.Common.{◌≡◌, ℕ, ◌+◌, ◌*◌, ◌^◌, ◌<◌, length, get_or}
use Rattle.block_sums.proofs.load.Given as goal

abbrev pub invariant-loop-e : goal.invariant-loop-e
invariant-loop-e l =
    (l.h ≡ 2 ^ l.e * 96) × (length l.t ≡ length l.initial.t)
    × ((f i : ℕ) → f < l.e → i < l.n → get_or l.t (2 ^ f * 96 + i) 0 ≡ get_or l.blocks (l.at + f * l.size + i) 0)
    × ((i : ℕ) → i < 96 → get_or l.t i 0 ≡ get_or l.initial.t i 0)
