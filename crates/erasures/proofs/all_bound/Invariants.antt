use Rattle.std.proofs.Common.{◌≡◌, true, ℕ, ◌<◌, get_or}
use Rattle.erasures.proofs.all_bound.Given as goal

abbrev pub invariant-loop-i : goal.invariant-loop-i
invariant-loop-i l = l.same ≡ true → (p : ℕ) → p < l.i → get_or l.marks p 0 ≡ get_or l.bound p 0
