use Rattle.std.proofs.Common.{ap, ◌∙◌, get_or}
use Rattle.binary_field.specs.Xor.{◌⊕◌}
use Rattle.binary_field.specs.XorLaws.{⊕-zero-l}
use Rattle.code.specs.Edition.{times}
use Rattle.byte_edition.specs.Edition.{byte_edition}
use Rattle.code_engine.specs.ListsLaws.{zeros-row}
use Rattle.block_constants.proofs.scale.Goals as goal

pub returns : goal.returns
returns c =
    let a = c.args in
    λ j l. c.add.ensures j l ∙ ap (λ b. b ⊕ times byte_edition (get_or a.row j 0) a.f) (zeros-row 16 j) ∙ ⊕-zero-l _
