use Rattle.std.proofs.Common.{arith, take, length-take}
use Rattle.code_loops.specs.DirectionsLaws.{add-lent}
use Rattle.candidate.proofs.add_direction.Goals as goal

pub returns : goal.returns
returns c =
    let a = c.args in
    add-lent (take a.w a.h) a.word.now (omega arith) (omega arith) (simp length-take (omega arith)) c.add_multiple.ensures
