use Rattle.std.proofs.Common.{◌≡◌, ℕ, ◌<◌, ◌+◌, ◌*◌, length, get_or}
use Rattle.code_engine.specs.Elimination.{entry}
use Rattle.block_laws.specs.Group.{masked}
use Rattle.block_rows.proofs.pack.Given as goal

abbrev pub invariant-loop-r : goal.invariant-loop-r
invariant-loop-r l =
    (length l.out ≡ 4 * length l.bound) × ((k : ℕ) → k < l.r → (j : ℕ) → j < length l.bound
    → get_or l.out (k * length l.bound + j) 0 ≡ masked l.bound (entry l.rows k) j)
