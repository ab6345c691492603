use Rattle.std.proofs.Common.{◌≡◌, ℕ, ◌+◌, ◌≤◌, ◌<◌, length, get_or}
use Rattle.binary_field.specs.Xor.{◌⊕◌}
use Rattle.block_sums.proofs.add_rows.Given as goal

abbrev pub invariant-loop-i : goal.invariant-loop-i
invariant-loop-i l =
    (length l.t ≡ length l.initial.t) × ((j : ℕ) → j < l.i → get_or l.t (l.b + j) 0 ≡ get_or l.initial.t (l.a1 + j) 0 ⊕ get_or l.initial.t (l.a2 + j) 0)
    × ((k : ℕ) → k < l.b → get_or l.t k 0 ≡ get_or l.initial.t k 0) × ((k : ℕ) → l.b + l.i ≤ k → get_or l.t k 0 ≡ get_or l.initial.t k 0)
