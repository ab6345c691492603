use Rattle.std.proofs.Common.{ℕ, ◌<◌, true}
use Rattle.answers.proofs.Tested.by.Given as goal

abbrev pub invariant-loop-g : goal.invariant-loop-g
invariant-loop-g g l = (k : ℕ) → k < l.g → goal.S-post g l.is_sound k true
