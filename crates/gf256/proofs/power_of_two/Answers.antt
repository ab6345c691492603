use Rattle.std.proofs.Common.{◌≡◌, sym, ap, ◌∙◌, ℕ, ◌<◌, mod-eq_of_lt, add-one, arith, lit<}
use Rattle.binary_field.specs.Product.{double, product}
use Rattle.binary_field.specs.ProductLaws.{double-low, double-product, one_product}
use Rattle.binary_field.specs.PowerLaws.{power_zero, power-suc}
use Rattle.gf256.proofs.power_of_two.Goals as goal

pub loop-init : goal.loop-init
loop-init c = (omega arith, sym (power_zero 8 285 2))

-- twice a is the product by 2
twice : (a : ℕ) → a < 256 → double 8 285 a ≡ product 8 285 2 a
twice a h =
    sym (double-product 8 285 1 a (lit< tt) ∙ ap (double 8 285) (one_product 8 285 (lit< tt) a ∙ mod-eq_of_lt h))
    ∙ ap (λ b. product 8 285 b a) (double-low 8 285 1 (lit< tt))

pub loop-preserved : goal.loop-preserved
loop-preserved c =
    let e = twice c.loop.r (omega arith) in (omega arith, cc (e, power-suc 8 285 2 c.loop.counter, add-one c.loop.counter))
