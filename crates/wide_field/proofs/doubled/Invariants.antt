use Rattle.std.proofs.Common.{◌≡◌, ◌<◌}
use Rattle.binary_field.specs.Product.{product}
use Rattle.binary_field.specs.Power.{power}
use Rattle.wide_field.proofs.doubled.Given as goal

abbrev pub invariant-loop : goal.invariant-loop
invariant-loop l = (l.r < 65536) × (l.r ≡ product 16 69643 (power 16 69643 2 l.counter) l.a)
