use Rattle.std.proofs.Common.{ap, ◌∙◌, ℕ, get_or}
use Rattle.binary_field.specs.Xor.{◌⊕◌}
use Rattle.binary_field.specs.XorLaws.{⊕-bits}
use Rattle.wide_across.proofs.weighted.Goals as goal

pub returns : goal.returns
returns c =
    let a = c.args in
    let p : ℕ = get_or a.sums a.c 0 in
    ⊕-bits p c.product.result ∙ ap (λ s. p ⊕ s) c.product.ensures
