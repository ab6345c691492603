use Rattle.std.proofs.Common.{◌≡◌, ℕ, ◌≤◌, ◌<◌, length, get_or}
use Rattle.binary_field.specs.Xor.{◌⊕◌}
use Rattle.block_tables.specs.Table.{turns}
use Rattle.block_sums.proofs.add_row.Given as goal

abbrev pub invariant-loop-i : goal.invariant-loop-i
invariant-loop-i l =
    (length l.out ≡ length l.initial.out) × ((j : ℕ) → j < l.i → get_or l.out j 0 ≡ get_or l.initial.out j 0 ⊕ turns l.t j 8 l.a l.b l.c l.d 0)
    × ((j : ℕ) → l.i ≤ j → get_or l.out j 0 ≡ get_or l.initial.out j 0)
