use Rattle.std.proofs.Common.{◌∙◌, arith}
use Rattle.binary_field.specs.ProductLaws.{product-comm}
use Rattle.code_loops.specs.DirectionsLaws.{add_turn, add_none}
use Rattle.wide_candidate.proofs.add_multiple.Goals as goal
use Rattle.wide_candidate.proofs.add_multiple.Goals.{then-v-ne0, else-v-ne0}

pub loop-i-preserved : goal.loop-i-preserved
loop-i-preserved c =
    let T = c.loop-i.invariant in
    elim c.if-v-ne0.branch [
      | then-v-ne0 v ↦ (add_turn T (omega arith) v.part-is (v.multiple.ensures ∙ product-comm 16 69643 _ _))
      | else-v-ne0 v ↦ (add_none T (omega arith) v.part-is v.if-v-ne0.false)
    ]
