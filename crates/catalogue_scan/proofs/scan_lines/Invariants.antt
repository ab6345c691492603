use Rattle.std.proofs.Common.{length, ◌-◌}
use Rattle.catalogue_scan.specs.ScanLaws.{Scanning}
use Rattle.catalogue_scan.proofs.scan_lines.Given as goal

abbrev pub invariant-loop-at : goal.invariant-loop-at
invariant-loop-at l = Scanning l.text l.name l.first l.at l.from l.to l.place l.top

abbrev pub decreases-loop-at : goal.decreases-loop-at
decreases-loop-at l = length l.text - l.at
