use Rattle.std.proofs.Common.{◌≡◌, ap, ap₂, ◌∙◌, ℕ}
use Rattle.binary_field.specs.Inverse.{inverse}
use Rattle.binary_field.specs.Xor.{◌⊕◌}
use Rattle.binary_field.specs.XorLaws.{⊕-bits}
use Rattle.code.specs.Edition.{times}
use Rattle.byte_edition.specs.Edition.{byte_edition}
use Rattle.block_constants.specs.FreeRows.{first_of, second_of, determinant_inverse}
use Rattle.block_constants.specs.FreeRowsLaws.{rows_made}
use Rattle.block_constants.proofs.mix_two.Goals as goal

pub returns : goal.returns
returns c =
    let a = c.args in
    let A : ℕ → ℕ = first_of a.across in
    let B : ℕ → ℕ = second_of a.n a.across in
    let v : c.inverse-i.result ≡ determinant_inverse a.p A B a.q =
    c.inverse-i.ensures ∙ ap (inverse 8 285) (⊕-bits _ _ ∙ ap₂ ◌⊕◌ c.shifted_product.ensures c.shifted_product-2.ensures) in
    rows_made a.n a.p a.q a.across _ _ _ _ _ _ _ _ _ _ _ _ c.clear_place-one.ensures c.clear_place-rows.ensures
    (c.shifted_product-3.ensures ∙ ap (λ c. times byte_edition c (B a.q)) v) (c.shifted_product-4.ensures ∙ ap (λ c. times byte_edition c (A a.q)) v)
    (c.shifted_product-5.ensures ∙ ap (λ c. times byte_edition c (B a.p)) v) (c.shifted_product-6.ensures ∙ ap (λ c. times byte_edition c (A a.p)) v)
    c.mix-half.ensures c.mix.ensures
