use Rattle.std.proofs.Common.{◌≡◌, List, ℕ, ◌+◌, ◌*◌, ◌≤◌, ◌<◌, length, get_or}
use Rattle.binary_field.specs.Sum.{sum_below}
use Rattle.code.specs.Stretch.{stretch}
use Rattle.block_tables.specs.Table.{IsTables, Selectors}
use Rattle.block_sums.specs.StripLaws.{term_at}
use Rattle.block_sums.proofs.strip_sums.Given as goal

abbrev pub invariant-loop-s : goal.invariant-loop-s
invariant-loop-s l =
    (length l.t ≡ 6144) × IsTables l.t × (length l.sums ≡ 384)
    × ((constants : List ℕ) → l.rows * l.count ≤ length constants → ((p : ℕ) → get_or constants p 0 < 256) → Selectors l.count l.rows constants l.found
    → (r i : ℕ) → r < l.rows → i < l.n → get_or l.sums (r * 96 + i) 0
    ≡ sum_below (l.s * 16) (term_at l.size l.blocks l.first (stretch l.count r constants) (l.x + i)))
