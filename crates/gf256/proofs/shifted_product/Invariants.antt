use Rattle.std.proofs.Common.{◌≡◌, ◌-◌}
use Rattle.binary_field.specs.Xor.{◌⊕◌}
use Rattle.binary_field.specs.Product.{bit_sum, product}
use Rattle.gf256.proofs.shifted_product.Given as goal

-- what is gathered, with what the bits not yet passed will add, is the product
abbrev pub invariant-loop : goal.invariant-loop
invariant-loop l = l.r ⊕ bit_sum 8 285 (8 - l.counter) l.x l.y ≡ product 8 285 l.a l.b
