use Rattle.std.proofs.Common.{◌≡◌, drop}
use Rattle.binary_field.specs.Xor.{◌⊕◌}
use Rattle.binary_field.specs.Inverse.{linear_map}
use Rattle.wide_solve.proofs.conjugate.Given as goal

-- what is gathered, with what the bits not yet passed will add
abbrev pub invariant-loop-x : goal.invariant-loop-x
invariant-loop-x l = (l.sum ⊕ linear_map (drop l.x-index l.x-items) l.rest ≡ linear_map l.x-items l.a)
