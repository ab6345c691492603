use Rattle.std.proofs.Common.{take, drop, ◌+◌, ◌-◌, ◌≤◌, ◌≡◌}
use Rattle.text.specs.Written.{written}
use Rattle.catalogue_lines.proofs.move_up.Given as goal

abbrev pub invariant-loop-i : goal.invariant-loop-i
invariant-loop-i l =
    (l.from ≤ l.i) × (l.buffer ≡ written l.initial.buffer (l.to + (l.i - l.from)) (take (l.end - l.i) (drop l.i l.initial.buffer)))
