use Rattle.std.proofs.Common.{◌≡◌}
use mathlib.Core.Option.{none}
use Rattle.counting.specs.Sets.{sets_below, first_in}
use Rattle.profile.specs.Search.{within}
use Rattle.profile.proofs.first_set.Given as goal

abbrev pub invariant-loop-size : goal.invariant-loop-size
invariant-loop-size l = first_in (within l.counts 0 l.w 0) (sets_below l.size l.w) ≡ none
