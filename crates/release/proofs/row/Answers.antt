use Rattle.std.proofs.Common.{lt-ltb, le-ltb}
use Rattle.release.specs.Joined.{row_of}
use Rattle.release.proofs.row.Goals as goal

pub returns-then-number-lt32 : goal.returns-then-number-lt32
unfolding row_of
returns-then-number-lt32 c = simp (lt-ltb _ _ c.if-number-lt32.true)

pub returns-else-number-lt32 : goal.returns-else-number-lt32
unfolding row_of
returns-else-number-lt32 c = simp (le-ltb _ _ c.if-number-lt32.false)
