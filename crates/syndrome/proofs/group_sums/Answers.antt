use Rattle.std.proofs.Common.{ap, ap₂, ◌∙◌, arith, length}
use Rattle.binary_field.specs.Product.{product}
use Rattle.byte_edition.specs.Edition.{byte_edition}
use Rattle.code_engine.specs.PartsLaws.{second-coefficient-group}
use Rattle.syndrome.proofs.group_sums.Goals as goal

pub returns : goal.returns
returns c =
    let a = c.args in
    let p = a.part.now in
    let r = c.in_range.ensures.places_bound c.if-not-in_range.false in record {
      value = λ narrow some few _.
          ap₂ (λ x y. record { first = x; second = y }) (ap (λ s. s.first) c.padded_sums-s.ensures)
          (c.shifted_product-second.ensures ∙ ap₂ (product 8 285) c.power_of_two.ensures (ap (λ s. s.second) c.padded_sums-s.ensures)
          ∙ second-coefficient-group byte_edition (length p) a.c a.g p);
      value_2 = λ n. absurd (n r.0 r.1 r.2 (omega arith));
    }
