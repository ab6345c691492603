use Rattle.std.proofs.Common.{ap, ◌∙◌, List, ℕ, arith, get_or, length-set}
use Rattle.binary_field.specs.Xor.{◌⊕◌}
use Rattle.binary_field.specs.XorLaws.{⊕-bits}
use Rattle.binary_field.specs.Product.{double}
use Rattle.syndrome.proofs.Laws.{row-set}
use Rattle.syndrome.proofs.twice_plus.Goals as goal

pub loop-i-preserved : goal.loop-i-preserved
loop-i-preserved c =
    let a = c.args in
    let x : List ℕ = a.x in (
      simp length-set c.loop-i.invariant.0,
      row-set (λ j. double 8 285 (get_or x j 0) ⊕ get_or a.part.now j 0) c.loop-i.r c.loop-i.i _ (let e = c.loop-i.invariant.0 in omega arith)
          (⊕-bits _ _ ∙ ap (λ d. d ⊕ get_or a.part.now c.loop-i.i 0) c.double.ensures) c.loop-i.invariant.1,
    )
