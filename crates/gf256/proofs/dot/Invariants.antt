use Rattle.std.proofs.Common.{◌≡◌, length}
use Rattle.binary_field.specs.Sum.{inner_product}
use Rattle.gf256.proofs.dot.Given as goal

abbrev pub invariant-loop-x : goal.invariant-loop-x
invariant-loop-x l = l.r ≡ inner_product 8 285 (length l.yielded) l.u l.v
