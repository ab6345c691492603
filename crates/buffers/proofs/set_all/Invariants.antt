use Rattle.std.proofs.Common.{◌≡◌, take, replicate}
use Rattle.buffers.proofs.set_all.Given as goal

abbrev pub invariant-loop-x : goal.invariant-loop-x
invariant-loop-x g l = take l.x-index l.buffer ≡ replicate l.x-index l.v
