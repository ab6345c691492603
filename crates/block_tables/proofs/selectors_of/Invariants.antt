use Rattle.std.proofs.Common.{◌≡◌, ℕ, ◌+◌, ◌*◌, ◌≤◌, ◌<◌, length, get_or}
use Rattle.code.specs.Stretch.{stretch}
use Rattle.block_tables.specs.Table.{selector_at}
use Rattle.block_tables.proofs.selectors_of.Given as goal

abbrev pub invariant-loop-r : goal.invariant-loop-r
invariant-loop-r l =
    (length l.found ≡ 240) × ((k s : ℕ) → k < l.r → s < 60 → get_or l.found (k * 60 + s) 0 ≡ selector_at (stretch l.count k l.constants) s)
    × ((j : ℕ) → l.r * 60 ≤ j → get_or l.found j 0 ≡ 0)
