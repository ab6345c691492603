use Rattle.std.proofs.Common.{ℕ, ◌<◌, ◌≤◌, get_or}
use Rattle.marks.proofs.are_marks.Given as goal

-- no mark so far is above the largest, and where that is above 1 some mark is
abbrev pub invariant-loop-mark : goal.invariant-loop-mark
invariant-loop-mark l = ((p : ℕ) → p < l.mark-index → get_or l.marks p 0 ≤ l.most) × (1 < l.most → (p : ℕ) × (1 < get_or l.marks p 0))
