use Rattle.std.proofs.Common.{refl, sym, ◌≤◌, arith}
use lib.ListN.{get_or-eq_default}
use Rattle.release.specs.Joined.{starts}
use Rattle.release.proofs.start.Goals as goal

pub returns-then-i-lt34 : goal.returns-then-i-lt34
unfolding starts
returns-then-i-lt34 c = refl

pub returns-else-i-lt34 : goal.returns-else-i-lt34
unfolding starts
returns-else-i-lt34 c = let h : 34 ≤ c.args.i = omega arith in sym (get_or-eq_default starts 0 h)
