use Rattle.std.proofs.Common.{◌≡◌, ◌<◌}
use Rattle.binary_field.specs.Power.{power}
use Rattle.gf256.proofs.power_of_two.Given as goal

abbrev pub invariant-loop : goal.invariant-loop
invariant-loop l = (l.r < 256) × (l.r ≡ power 8 285 2 l.counter)
