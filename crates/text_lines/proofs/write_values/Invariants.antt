use Rattle.std.proofs.Common.{◌≡◌, map, ◌-◌, ◌≤◌, ◌+◌, ◌%◌, ◌/◌, length}
use lib.Seq.{sets}
use Rattle.text.specs.Records.{values_from}
use Rattle.text_lines.proofs.write_values.Given as goal

abbrev pub invariant-loop-at : goal.invariant-loop-at
invariant-loop-at l =
    (l.at ≤ length l.line) × (l.count ≤ l.at) × (length l.bytes ≡ length l.initial.bytes) × (length l.marks ≡ length l.initial.marks)
    × (l.count + length (values_from l.at l.line) ≡ length (values_from l.from l.line))
    × (sets l.bytes l.count (map (λ v. v % 256) (values_from l.at l.line)) ≡ sets l.initial.bytes 0 (map (λ v. v % 256) (values_from l.from l.line)))
    × (sets l.marks l.count (map (λ v. v / 256) (values_from l.at l.line)) ≡ sets l.initial.marks 0 (map (λ v. v / 256) (values_from l.from l.line)))

abbrev pub decreases-loop-at : goal.decreases-loop-at
decreases-loop-at l = length l.line - l.at
