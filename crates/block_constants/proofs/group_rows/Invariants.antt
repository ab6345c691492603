use Rattle.std.proofs.Common.{ℕ, ◌≤◌, ◌<◌, length}
use Rattle.counting.specs.Count.{count_below}
use Rattle.code.specs.Marks.{lost}
use Rattle.byte_edition.specs.Edition.{byte_edition}
use Rattle.code_engine.specs.Elimination.{row, entry}
use Rattle.code_engine.specs.EliminationRows.{Small}
use Rattle.block_constants.specs.Reduced.{ReducedTo}
use Rattle.block_constants.proofs.group_rows.Given as goal

abbrev pub invariant-loop-p : goal.invariant-loop-p
invariant-loop-p l =
    (l.t ≤ 4) × ((i : ℕ) → i < 6 → Small 8 (row l.rows i))
    × (count_below l.p (lost l.bound) ≤ 4 → ReducedTo byte_edition (length l.bound) 6 l.bound l.p l.t (entry l.initial.rows) (entry l.rows))
