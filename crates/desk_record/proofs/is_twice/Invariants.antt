use Rattle.std.proofs.Common.{◌≡◌, eqb, get_or}
use Rattle.counting.specs.Test.{any_below}
use Rattle.desk_record.proofs.is_twice.Given as goal

abbrev pub invariant-loop-r : goal.invariant-loop-r
invariant-loop-r l = l.twice ≡ any_below l.r (λ k. eqb (get_or l.issues k 0) l.u)
