use Rattle.std.proofs.Common.{◌≡◌, ◌-◌, ◌%◌, ◌^◌, ◌<◌}
use Rattle.binary_field.specs.Xor.{◌⊕◌}
use Rattle.binary_field.specs.Product.{product}
use Rattle.wide_field.proofs.four_bits.Given as goal

-- what is gathered, with what the bits not yet passed will add
abbrev pub invariant-loop : goal.invariant-loop
invariant-loop l =
    (l.shifted < 65536) × (l.rest < 16) × (l.rest < 2 ^ (4 - l.counter)) × (l.sum ⊕ product 16 69643 l.shifted l.rest ≡ l.r ⊕ product 16 69643 l.a (l.b % 16))
