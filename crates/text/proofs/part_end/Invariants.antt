use Rattle.std.proofs.Common.{◌≡◌, ◌≤◌, max, length}
use Rattle.text.specs.Fields.{end_of}
use Rattle.text.proofs.part_end.Given as goal

abbrev pub invariant-loop-i : goal.invariant-loop-i
invariant-loop-i l = (l.i ≤ max l.from (length l.text)) × (end_of l.sep l.i l.text ≡ end_of l.sep l.from l.text)
