use Rattle.std.proofs.Common.{sym, ap, ◌∙◌, mod-eq_of_lt, lit<}
use Rattle.binary_field.specs.Product.{product}
use Rattle.binary_field.specs.ProductLaws.{one_product}
use Rattle.wide_across.proofs.multiple.Goals as goal

pub returns-then-v-eq1 : goal.returns-then-v-eq1
returns-then-v-eq1 c = let a = c.args in
    sym (ap (λ v. product 16 69643 v a.b) c.if-v-eq1.true ∙ one_product 16 69643 (lit< tt) a.b ∙ mod-eq_of_lt c.ranges.b.fits)
