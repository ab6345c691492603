use Rattle.std.proofs.Common.{◌≡◌, ◌≤◌}
use Rattle.counting.specs.Count.{count_below}
use Rattle.code.specs.Marks.{lost}
use Rattle.marks.proofs.few_lost.Given as goal

abbrev pub invariant-loop-mark : goal.invariant-loop-mark
invariant-loop-mark l = (l.n ≤ l.mark-index) × (l.n ≡ count_below l.mark-index (lost l.part))
