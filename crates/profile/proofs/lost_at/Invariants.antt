use Rattle.std.proofs.Common.{◌≡◌, ◌+◌, ◌*◌, ◌≤◌}
use Rattle.counting.specs.Count.{count_below}
use Rattle.code.specs.Marks.{lost}
use Rattle.profile.proofs.lost_at.Given as goal

abbrev pub invariant-loop-g : goal.invariant-loop-g
invariant-loop-g l = (l.n ≤ l.g) × (l.n ≡ count_below l.g (λ i. lost l.marks (i * l.w + l.j)))
