use Rattle.std.proofs.Common.{length, drop, min, ◌≤◌, ◌≡◌}
use Rattle.catalogue_text.specs.Names.{before}
use Rattle.catalogue_lines.proofs.is_before.Given as goal

abbrev pub invariant-loop-i : goal.invariant-loop-i
invariant-loop-i l = (l.i ≤ length l.name) × (l.i ≤ length l.other) × (before (drop l.i l.name) (drop l.i l.other) ≡ before l.name l.other)
