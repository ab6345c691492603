use Rattle.std.proofs.Common.{◌≡◌, length}
use Rattle.block_constants.specs.FreeRowsLaws.{MixedTo}
use Rattle.block_constants.proofs.mix.Given as goal

abbrev pub invariant-loop-i : goal.invariant-loop-i
invariant-loop-i l = (length l.r ≡ 480) × MixedTo l.n l.start l.f l.h l.rows l.initial.r l.i l.r
