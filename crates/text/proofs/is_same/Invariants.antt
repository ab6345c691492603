use Rattle.std.proofs.Common.{◌≡◌, ◌≤◌, length, drop}
use Rattle.text.specs.Fields.{same}
use Rattle.text.proofs.is_same.Given as goal

abbrev pub invariant-loop-i : goal.invariant-loop-i
invariant-loop-i l = (l.i ≤ length l.name) × (length l.name ≡ length l.wanted) × (same (drop l.i l.name) (drop l.i l.wanted) ≡ same l.name l.wanted)
