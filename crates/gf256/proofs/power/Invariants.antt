use Rattle.std.proofs.Common.{◌≡◌}
use Rattle.binary_field.specs.Power.{power}
use Rattle.gf256.proofs.power.Given as goal

abbrev pub invariant-loop : goal.invariant-loop
invariant-loop l = l.r ≡ power 8 285 l.a l.counter
