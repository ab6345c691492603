use Rattle.std.proofs.Common.{ap, ◌∙◌, List, ℕ, arith, get_or}
use Rattle.binary_field.specs.Xor.{◌⊕◌}
use Rattle.binary_field.specs.XorLaws.{⊕-bits}
use Rattle.binary_field.specs.Product.{double}
use Rattle.buffers.proofs.Laws.{passed-set}
use Rattle.code_engine.specs.ListsLaws.{rest-set}
use Rattle.wide_across.proofs.fold.Goals as goal

pub loop-i-preserved : goal.loop-i-preserved
loop-i-preserved c =
    let a = c.args in
    let i : ℕ = c.loop-i.i in
    let x : List ℕ = c.loop-i.x in
    let y : List ℕ = c.loop-i.y in (
      passed-set (λ k. get_or a.x.now k 0 ⊕ get_or a.part.now k 0) x i _ (omega arith)
          (⊕-bits (get_or x i 0) (get_or a.part.now i 0) ∙ ap (λ v. v ⊕ get_or a.part.now i 0) (c.loop-i.invariant.1 i (omega arith))) c.loop-i.invariant.0,
      rest-set (λ k. get_or a.x.now k 0) x i _ 0 c.loop-i.invariant.1,
      passed-set (λ k. double 16 69643 (get_or a.y.now k 0) ⊕ get_or a.part.now k 0) y i _ (omega arith)
          (⊕-bits c.double.result (get_or a.part.now i 0) ∙ ap (λ v. v ⊕ get_or a.part.now i 0)
          (c.double.ensures ∙ ap (double 16 69643) (c.loop-i.invariant.3 i (omega arith)))) c.loop-i.invariant.2,
      rest-set (λ k. get_or a.y.now k 0) y i _ 0 c.loop-i.invariant.3,
    )
