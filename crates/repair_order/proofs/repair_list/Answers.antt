use Rattle.std.proofs.Common.{arith}
use Rattle.code_loops.specs.RepairLaws.{repairing-on, repairing-ends}
use Rattle.repair_order.proofs.repair_list.Goals as goal

pub loop-g-preserved : goal.loop-g-preserved
loop-g-preserved c =
    repairing-on c.loop-g.invariant (omega arith) (c.repair.ensures.word, c.repair.ensures.marks) c.word-1.given c.marks-1.given

pub returns : goal.returns
returns c = repairing-ends c.loop-g.invariant (omega arith)
