use Rattle.std.proofs.Common.{◌≡◌, ap, ap₂, ◌∙◌, ℕ, bit_xor}
use Rattle.binary_field.specs.Xor.{◌⊕◌}
use Rattle.binary_field.specs.XorLaws.{⊕-bits}
use Rattle.binary_field.specs.Product.{product}
use Rattle.binary_field.specs.Inverse.{inverse}
use Rattle.byte_edition.specs.EditionLaws.{bytes-sound}
use Rattle.code.specs.PairLaws.{two-met}
use Rattle.candidate.proofs.two_unknowns.Goals as goal

-- the sum of two that are known
sum_of : {x y a b : ℕ} → x ≡ a → y ≡ b → bit_xor x y ≡ a ⊕ b
sum_of {x} {y} e f = ⊕-bits x y ∙ ap₂ ◌⊕◌ e f

pub returns : goal.returns
returns c =
    two-met bytes-sound c.ranges.s.fits c.ranges.t.fits c.requires
    (c.inverse-i.ensures ∙ ap (inverse 8 285) (sum_of c.shifted_product.ensures c.shifted_product-2.ensures))
    (c.shifted_product-first.ensures ∙ ap (product 8 285 _) (sum_of c.shifted_product-3.ensures c.shifted_product-4.ensures))
    (c.shifted_product-second.ensures ∙ ap (product 8 285 _) (sum_of c.shifted_product-5.ensures c.shifted_product-6.ensures))
