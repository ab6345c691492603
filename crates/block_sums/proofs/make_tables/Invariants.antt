use Rattle.std.proofs.Common.{◌≡◌, ℕ, ◌+◌, ◌*◌, ◌^◌, ◌<◌, length, get_or}
use Rattle.block_tables.specs.Table.{IsTables}
use Rattle.block_sums.proofs.make_tables.Given as goal

abbrev pub invariant-loop-s : goal.invariant-loop-s
invariant-loop-s l =
    (length l.t ≡ 6144) × IsTables l.t
    × ((q e i : ℕ) → q < l.s → e < 4 → q * 4 + e < l.have → i < l.n
    → get_or l.t (q * 1536 + (2 ^ e * 96 + i)) 0 ≡ get_or l.blocks (l.at + (q * 4 + e) * l.size + i) 0)
