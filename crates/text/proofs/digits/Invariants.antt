use Rattle.std.proofs.Common.{drop, ◌≤◌, ◌≡◌}
use Rattle.text.specs.Decimal.{digits_after}
use Rattle.text.proofs.digits.Given as goal

abbrev pub invariant-loop-x : goal.invariant-loop-x
invariant-loop-x l = (l.a ≤ l.bound) × (digits_after l.bound l.a (drop l.x-index l.field) ≡ digits_after l.bound 0 l.field)
