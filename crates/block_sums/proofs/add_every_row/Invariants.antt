use Rattle.std.proofs.Common.{◌≡◌, ℕ, ◌+◌, ◌*◌, ◌≤◌, ◌<◌, length, get_or}
use Rattle.binary_field.specs.Xor.{◌⊕◌}
use Rattle.block_tables.specs.Table.{turns}
use Rattle.block_sums.proofs.add_every_row.Given as goal

abbrev pub invariant-loop-r : goal.invariant-loop-r
invariant-loop-r l =
    (length l.sums ≡ length l.initial.sums)
    × ((k i : ℕ) → k < l.r → i < 96
    → get_or l.sums (k * 96 + i) 0 ≡ get_or l.initial.sums (k * 96 + i) 0
    ⊕ turns l.t i 8 (get_or l.found (k * 60 + l.q) 0) (get_or l.found (k * 60 + l.q + 1) 0)
    (get_or l.found (k * 60 + l.q + 2) 0) (get_or l.found (k * 60 + l.q + 3) 0) 0)
    × ((k : ℕ) → l.r * 96 ≤ k → get_or l.sums k 0 ≡ get_or l.initial.sums k 0)
