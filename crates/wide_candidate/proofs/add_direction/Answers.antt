use Rattle.std.proofs.Common.{arith}
use Rattle.code_loops.specs.DirectionsLaws.{add-lent}
use Rattle.wide_candidate.proofs.add_direction.Goals as goal

pub returns : goal.returns
returns c =
    let a = c.args in
    add-lent a.h.now a.word.now (omega arith) (omega arith) (omega arith) c.add_multiple.ensures
