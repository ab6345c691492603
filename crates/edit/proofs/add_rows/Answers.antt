use Rattle.std.proofs.Common.{◌≡◌, ap₂, ◌∙◌, List, ℕ, arith, get_or, length-set}
use Rattle.binary_field.specs.Xor.{◌⊕◌}
use Rattle.binary_field.specs.XorLaws.{⊕-bits}
use Rattle.code.specs.Edition.{times}
use Rattle.byte_edition.specs.Edition.{byte_edition}
use Rattle.code_engine.specs.ListsLaws.{each_set, rest-set}
use Rattle.edit.proofs.add_rows.Goals as goal

pub loop-i-preserved : goal.loop-i-preserved
loop-i-preserved c =
    let a = c.args in
    let i : ℕ = c.loop-i.i in
    let x : List ℕ = c.loop-i.part in
    let x₀ : List ℕ = a.part.now in (
      simp length-set (omega arith),
      each_set (λ l z. z ≡ get_or x₀ l 0 ⊕ (times byte_edition a.u (get_or a.h.now l 0) ⊕ times byte_edition a.v (get_or a.k.now l 0))) x i _ 0
          (omega arith)
          c.loop-i.invariant.1
          (⊕-bits _ _
          ∙ ap₂ ◌⊕◌ (c.loop-i.invariant.2 i (omega arith))
          (⊕-bits _ _ ∙ ap₂ ◌⊕◌ c.shifted_product-a.ensures c.shifted_product-b.ensures)),
      rest-set (λ l. get_or x₀ l 0) x i _ 0 c.loop-i.invariant.2,
    )
