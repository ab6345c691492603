use Rattle.std.proofs.Common.{take, drop, ◌-◌, ◌≡◌}
use Rattle.text.specs.Written.{written}
use Rattle.catalogue_lines.proofs.move_down.Given as goal

abbrev pub invariant-loop-i : goal.invariant-loop-i
invariant-loop-i l = l.buffer ≡ written l.initial.buffer l.to (take (l.i - l.from) (drop l.from l.initial.buffer))
