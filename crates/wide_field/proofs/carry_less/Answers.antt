use Rattle.std.proofs.Common.{◌≡◌, refl, sym, ap₂, ◌∙◌, ℕ, ◌*◌, ◌<◌, mod-eq_of_lt, arith, bit_and, lit<, lit≤}
use lib.Bits.{and_comm, and_mask}
use Rattle.binary_field.specs.Xor.{◌⊕◌}
use Rattle.binary_field.specs.ProductLaws.{ring}
use Rattle.wide_field.specs.CarryLess.{carry_less}
use Rattle.wide_field.specs.CarryLessLaws.{and-add}
use Rattle.wide_field.specs.SpacedLaws.{spaced-product}
use Rattle.wide_field.proofs.carry_less.Goals as goal

-- every digit stands in one of the three classes
classes : (x : ℕ) → x < 65536 → bit_and x 37449 ⊕ (bit_and x 9362 ⊕ bit_and x 18724) ≡ x
unfolding ◌⊕◌
classes x h =
    ap₂ ◌⊕◌ (and_comm x 37449) (ap₂ ◌⊕◌ (and_comm x 9362) (and_comm x 18724) ∙ sym (and-add 9362 18724 x)) ∙ sym (and-add 37449 28086 x)
    ∙ and_comm 65535 x ∙ and_mask x 16 ∙ mod-eq_of_lt h

-- one class of digits of the product
class : (a b c m : ℕ) {p q r : ℕ} → bit_and a m ≡ p → bit_and b m ≡ q → bit_and c m ≡ r → bit_and (a ⊕ (b ⊕ c)) m ≡ p ⊕ (q ⊕ r)
class a b c m e f g = and-add a (b ⊕ c) m ∙ ap₂ ◌⊕◌ e (and-add b c m ∙ ap₂ ◌⊕◌ f g)

regroup : (x y z u v w : ℕ)
    → (carry_less x u ⊕ (carry_less y w ⊕ carry_less z v)) ⊕ ((carry_less x v ⊕ (carry_less y u ⊕ carry_less z w))
    ⊕ (carry_less x w ⊕ (carry_less y v ⊕ carry_less z u))) ≡ carry_less (x ⊕ (y ⊕ z)) (u ⊕ (v ⊕ w))
regroup x y z u v w = simp ring

-- the nine products make up the carry-less product
nine : (x y : ℕ) → x < 65536 → y < 65536
    → bit_and (bit_and x 37449 * bit_and y 37449 ⊕ (bit_and x 9362 * bit_and y 18724 ⊕ bit_and x 18724 * bit_and y 9362)) 1227133513
    ⊕ (bit_and (bit_and x 37449 * bit_and y 9362 ⊕ (bit_and x 9362 * bit_and y 37449 ⊕ bit_and x 18724 * bit_and y 18724)) 2454267026
    ⊕ bit_and (bit_and x 37449 * bit_and y 18724 ⊕ (bit_and x 9362 * bit_and y 9362 ⊕ bit_and x 18724 * bit_and y 37449)) 613566756) ≡ carry_less x y
nine x y lx ly =
    let p00 = spaced-product x y 0 0 6 6 11 1227133513 (lit≤ tt) (lit< tt) refl (lit< tt) (lit< tt) (lit≤ tt) in
    let p12 = spaced-product x y 1 2 5 5 10 1227133513 (lit≤ tt) (lit< tt) refl (lit< tt) (lit< tt) (lit≤ tt) in
    let p21 = spaced-product x y 2 1 5 5 10 1227133513 (lit≤ tt) (lit< tt) refl (lit< tt) (lit< tt) (lit≤ tt) in
    let p01 = spaced-product x y 0 1 6 5 11 2454267026 (lit≤ tt) (lit< tt) refl (lit< tt) (lit< tt) (lit≤ tt) in
    let p10 = spaced-product x y 1 0 5 6 11 2454267026 (lit≤ tt) (lit< tt) refl (lit< tt) (lit< tt) (lit≤ tt) in
    let p22 = spaced-product x y 2 2 5 5 10 2454267026 (lit≤ tt) (lit< tt) refl (lit< tt) (lit< tt) (lit≤ tt) in
    let p02 = spaced-product x y 0 2 6 5 10 613566756 (lit≤ tt) (lit< tt) refl (lit< tt) (lit< tt) (lit≤ tt) in
    let p11 = spaced-product x y 1 1 5 5 10 613566756 (lit≤ tt) (lit< tt) refl (lit< tt) (lit< tt) (lit≤ tt) in
    let p20 = spaced-product x y 2 0 5 6 10 613566756 (lit≤ tt) (lit< tt) refl (lit< tt) (lit< tt) (lit≤ tt) in
    ap₂ ◌⊕◌ (class _ _ _ 1227133513 p00 p12 p21) (ap₂ ◌⊕◌ (class _ _ _ 2454267026 p01 p10 p22) (class _ _ _ 613566756 p02 p11 p20))
    ∙ regroup (bit_and x 37449) (bit_and x 9362) (bit_and x 18724) (bit_and y 37449) (bit_and y 9362) (bit_and y 18724)
    ∙ ap₂ carry_less (classes x lx) (classes y ly)

pub returns : goal.returns
unfolding ◌⊕◌
returns c = nine c.from-x.result c.from-y.result (omega arith) (omega arith) ∙ ap₂ carry_less c.from-x.ensures c.from-y.ensures
