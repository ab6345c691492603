use Rattle.std.proofs.Common.{◌≡◌, ℕ, ◌<◌, length, get_or}
use Rattle.profile.specs.Search.{lost_at}
use Rattle.profile.proofs.lost_by_place.Given as goal

abbrev pub invariant-loop-j : goal.invariant-loop-j
invariant-loop-j l = (length l.counts ≡ 16) × ((i : ℕ) → i < l.j → get_or l.counts i 0 ≡ lost_at l.m l.w l.marks i)
