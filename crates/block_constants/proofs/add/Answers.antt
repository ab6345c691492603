use Rattle.std.proofs.Common.{◌≡◌, ap, ◌∙◌, arith, get_or}
use Rattle.binary_field.specs.Xor.{◌⊕◌}
use Rattle.binary_field.specs.XorLaws.{⊕-bits}
use Rattle.code.specs.Edition.{times}
use Rattle.byte_edition.specs.Edition.{byte_edition}
use Rattle.code_engine.specs.ListsLaws.{each_set}
use Rattle.block_constants.proofs.add.Goals as goal

pub loop-j-preserved : goal.loop-j-preserved
loop-j-preserved c =
    let a = c.args in
    each_set (λ k v. v ≡ get_or a.row k 0 ⊕ times byte_edition (get_or a.b k 0) a.f) c.loop-j.x-items c.loop-j.j _ 0 (omega arith)
    c.loop-j.invariant (⊕-bits (get_or a.row c.loop-j.j 0) c.shifted_product.result
    ∙ ap (λ x. get_or a.row c.loop-j.j 0 ⊕ x) c.shifted_product.ensures)
