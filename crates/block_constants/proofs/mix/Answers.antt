use Rattle.std.proofs.Common.{ap₂, ◌∙◌, arith, length-set}
use Rattle.binary_field.specs.Xor.{◌⊕◌}
use Rattle.binary_field.specs.XorLaws.{⊕-bits}
use Rattle.block_constants.specs.FreeRowsLaws.{mixed-more}
use Rattle.block_constants.proofs.mix.Goals as goal

pub loop-i-preserved : goal.loop-i-preserved
loop-i-preserved c =
    let l = c.loop-i.invariant in (
      simp length-set (omega arith),
      mixed-more _ _ _ _ _ _ _ _ _ (omega arith) (⊕-bits _ _ ∙ ap₂ ◌⊕◌ c.shifted_product.ensures
          c.shifted_product-in-loop-i.ensures) l.1,
    )
