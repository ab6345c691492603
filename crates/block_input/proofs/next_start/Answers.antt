use Rattle.std.proofs.Common.{add-one, arith, lt-ltb, le-ltb}
use Rattle.block_input.proofs.next_start.Goals as goal

pub returns-then-end-size : goal.returns-then-end-size
returns-then-end-size c = let a = c.args in rw (lt-ltb a.end a.size (omega arith)) (add-one a.end)

pub returns-else-end-size : goal.returns-else-end-size
returns-else-end-size c = let a = c.args in rw (le-ltb a.end a.size (omega arith))
