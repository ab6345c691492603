use Rattle.std.proofs.Common.{refl, arith}
use Rattle.code_loops.specs.DirectionsLaws.{add_turn}
use Rattle.candidate.proofs.add_multiple.Goals as goal

pub loop-i-preserved : goal.loop-i-preserved
loop-i-preserved c = add_turn c.loop-i.invariant (omega arith) refl c.shifted_product.ensures
