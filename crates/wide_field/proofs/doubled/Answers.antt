use Rattle.std.proofs.Common.{◌≡◌, sym, ap, ◌∙◌, subst, ℕ, ◌<◌, mod-eq_of_lt, add-one, lit<}
use Rattle.binary_field.specs.Product.{double, product}
use Rattle.binary_field.specs.ProductLaws.{double-low, double-lt, double-product, one_product}
use Rattle.binary_field.specs.Power.{power}
use Rattle.binary_field.specs.PowerLaws.{power_zero, power-suc, power-lt, double-is}
use Rattle.wide_field.proofs.doubled.Goals as goal

-- twice a is the product by 2
twice : (a : ℕ) → a < 65536 → double 16 69643 a ≡ product 16 69643 2 a
twice a h = double-is 16 69643 (lit< tt) a h ∙ ap (λ b. product 16 69643 b a) (double-low 16 69643 1 (lit< tt))

pub loop-init : goal.loop-init
loop-init c =
    let a = c.args in (
      c.ranges.a.fits,
      sym (ap (λ p. product 16 69643 p a.a) (power_zero 16 69643 2) ∙ one_product 16 69643 (lit< tt) a.a ∙ mod-eq_of_lt c.ranges.a.fits),
    )

pub loop-preserved : goal.loop-preserved
loop-preserved c =
    let a : ℕ = c.args.a in
    let i : ℕ = c.loop.counter in (
      subst (λ x. x < 65536) (sym c.double-r.ensures) (double-lt 16 69643 c.loop.r),
      c.double-r.ensures ∙ ap (double 16 69643) c.loop.invariant.1 ∙ sym (double-product 16 69643 (power 16 69643 2 i) a (power-lt 16 69643 (lit< tt) 2 i))
          ∙ ap (λ p. product 16 69643 p a) (twice (power 16 69643 2 i) (power-lt 16 69643 (lit< tt) 2 i) ∙ sym (power-suc 16 69643 2 i)
          ∙ ap (power 16 69643 2) (sym (add-one i))),
    )
