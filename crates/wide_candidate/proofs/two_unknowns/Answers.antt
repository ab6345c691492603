use Rattle.std.proofs.Common.{◌≡◌, refl, ap, ap₂, ◌∙◌, List, ℕ, ◌<◌, lit<, bit_xor, length, get_or}
use Rattle.binary_field.specs.Xor.{◌⊕◌}
use Rattle.binary_field.specs.XorLaws.{⊕-bits}
use Rattle.binary_field.specs.Product.{product}
use Rattle.binary_field.specs.Inverse.{inverse}
use Rattle.code.specs.Edition.{times}
use Rattle.wide_shape.specs.Edition.{wide_edition}
use Rattle.wide_sums.specs.PowerSums.{EachTimes}
use Rattle.wide_shape.specs.EditionLaws.{wide-sound}
use Rattle.code.specs.PairLaws.{two-met}
use Rattle.wide_candidate.proofs.two_unknowns.Goals as goal

-- the sum of two of the products
sum_of : {x y z : List ℕ} → EachTimes x y z → (i j : ℕ) → i < length x → j < length x
    → bit_xor (get_or z i 0) (get_or z j 0) ≡ times wide_edition (get_or x i 0) (get_or y i 0) ⊕ times wide_edition (get_or x j 0) (get_or y j 0)
sum_of T i j k l = ⊕-bits _ _ ∙ ap₂ ◌⊕◌ (T.each i k) (T.each j l)

pub returns : goal.returns
returns c =
    let f = c.ranges in
    let T = c.multiply.ensures.each_times refl in
    two-met wide-sound f.s.fits f.t.fits c.requires (c.inverse-i.ensures ∙ ap (inverse 16 69643) (sum_of T 0 1 (lit< tt) (lit< tt)))
    (c.product-first.ensures ∙ ap (product 16 69643 c.inverse-i.result) (sum_of T 2 3 (lit< tt) (lit< tt)))
    (c.product-second.ensures ∙ ap (product 16 69643 c.inverse-i.result) (sum_of T 4 5 (lit< tt) (lit< tt)))
