use Rattle.std.proofs.Common.{◌≡◌, ℕ, ◌<◌, get_or}
use Rattle.block_laws.specs.Group.{masked}
use Rattle.block_rows.proofs.pack_row.Given as goal

abbrev pub invariant-loop-j : goal.invariant-loop-j
invariant-loop-j l =
    (k : ℕ) → k < l.j → get_or l.out k 0 ≡ masked l.bound (λ i. get_or l.row i 0) k
