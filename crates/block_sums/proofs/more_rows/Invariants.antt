use Rattle.std.proofs.Common.{◌≡◌, ℕ, ◌+◌, ◌*◌, ◌≤◌, ◌<◌, length, get_or}
use Rattle.binary_field.specs.Xor.{◌⊕◌}
use Rattle.block_sums.proofs.more_rows.Given as goal

abbrev pub invariant-loop-u : goal.invariant-loop-u
invariant-loop-u l =
    (length l.t ≡ length l.initial.t)
    × ((v i : ℕ) → 1 ≤ v → v < l.u → v < l.h → i < 96 → get_or l.t ((l.h + v) * 96 + i) 0
    ≡ get_or l.initial.t (l.h * 96 + i) 0 ⊕ get_or l.initial.t (v * 96 + i) 0)
    × ((k : ℕ) → k < (l.h + 1) * 96 → get_or l.t k 0 ≡ get_or l.initial.t k 0) × ((k : ℕ) → 2 * l.h * 96 ≤ k → get_or l.t k 0 ≡ get_or l.initial.t k 0)
