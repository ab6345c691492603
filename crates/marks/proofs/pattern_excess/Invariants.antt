use Rattle.std.proofs.Common.{◌≡◌, ℕ, ◌+◌, ◌*◌, ◌≤◌, length, drop}
use Rattle.std.specs.Slice.Iter.{chunks_exact_rest, chunks_exact_size}
use Rattle.code.specs.Marks.{excess}
use Rattle.marks.proofs.pattern_excess.Given as goal

-- a is where the next group starts
abbrev pub invariant-loop-group : goal.invariant-loop-group
invariant-loop-group l =
    (a : ℕ) × (a ≡ length l.yielded * l.w) × (a ≤ length l.marks) × (chunks_exact_size l.group-iterator ≡ l.w)
    × (chunks_exact_rest l.group-iterator ≡ drop a l.marks) × (l.lost ≤ a) × (l.own ≤ a) × (l.lost ≡ excess (length l.yielded) l.w l.c l.marks + l.own)
