use Rattle.std.proofs.Common.{◌≡◌, ◌≤◌, length}
use Rattle.counting.specs.Count.{count_below}
use Rattle.code.specs.Marks.{lost}
use Rattle.block_laws.specs.Steps.{Targets}
use Rattle.block_engine.proofs.targets.Given as goal

abbrev pub invariant-loop-j : goal.invariant-loop-j
invariant-loop-j l =
    (length l.to ≡ 4) × (l.n ≡ count_below l.j (lost l.bound)) × (l.n ≤ 4 → Targets l.base l.bound l.to l.j l.n)
