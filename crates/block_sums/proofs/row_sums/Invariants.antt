use Rattle.std.proofs.Common.{◌≡◌, ℕ, ◌-◌, ◌<◌, length, get_or}
use Rattle.block_tables.specs.Table.{turns}
use Rattle.block_sums.proofs.row_sums.Given as goal

abbrev pub invariant-loop : goal.invariant-loop
invariant-loop l =
    (length l.r ≡ 96) × ((i : ℕ) → i < 96 → turns l.t i (8 - l.counter) l.p l.q l.u l.v (get_or l.r i 0) ≡ turns l.t i 8 l.a l.b l.c l.d 0)
