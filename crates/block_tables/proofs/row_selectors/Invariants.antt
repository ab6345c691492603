use Rattle.std.proofs.Common.{◌≡◌, ℕ, ◌≤◌, ◌<◌, get_or}
use Rattle.block_tables.specs.Table.{selector_at}
use Rattle.block_tables.proofs.row_selectors.Given as goal

abbrev pub invariant-loop-s : goal.invariant-loop-s
invariant-loop-s l =
    ((j : ℕ) → j < l.s → get_or l.found j 0 ≡ selector_at l.k j) × ((j : ℕ) → l.s ≤ j → j < 60 → get_or l.found j 0 ≡ 0)
