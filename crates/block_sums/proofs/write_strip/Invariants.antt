use Rattle.block_sums.specs.Sums.{StripWritten}
use Rattle.block_sums.proofs.write_strip.Given as goal

abbrev pub invariant-loop-i : goal.invariant-loop-i
invariant-loop-i l = StripWritten l.size l.x l.n l.i l.sums l.to l.initial.blocks l.blocks
