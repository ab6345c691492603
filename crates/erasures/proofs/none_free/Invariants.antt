use Rattle.std.proofs.Common.{◌≡◌, false, ℕ, ◌*◌, ◌<◌, length}
use Rattle.code_engine.specs.Bound.{free}
use Rattle.erasures.proofs.none_free.Given as goal

abbrev pub invariant-loop-k : goal.invariant-loop-k
invariant-loop-k l =
    (l.n ≡ length l.marks) × (length l.marks ≡ length l.bound) × ((p : ℕ) → p < 16 * l.k → free l.marks l.bound p ≡ false)
