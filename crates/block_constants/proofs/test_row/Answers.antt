use Rattle.std.proofs.Common.{ap, ◌∙◌}
use Rattle.binary_field.specs.Product.{product}
use Rattle.block_constants.proofs.test_row.Goals as goal

pub returns-clause-one_row : goal.returns-clause-one_row
returns-clause-one_row c = λ _ _. rw (c.shifted_product-f.ensures ∙ ap (product 8 285 _) c.inverse.ensures) at c.mix_one.ensures
