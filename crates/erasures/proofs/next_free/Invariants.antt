use Rattle.std.proofs.Common.{◌≡◌, false, ℕ, ◌≤◌, ◌<◌}
use Rattle.code_engine.specs.Bound.{free}
use Rattle.erasures.proofs.next_free.Given as goal

abbrev pub invariant-loop-i : goal.invariant-loop-i
invariant-loop-i l = ((p : ℕ) → p < l.i → l.start ≤ p → free l.marks l.bound p ≡ false)
