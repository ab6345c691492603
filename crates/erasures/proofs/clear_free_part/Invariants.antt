use Rattle.std.proofs.Common.{◌≡◌, ◌++◌, ◌≤◌, ◌-◌, length, take, drop}
use Rattle.code_engine.specs.Bound.{bound_of}
use Rattle.erasures.proofs.clear_free_part.Given as goal

abbrev pub invariant-loop-mark : goal.invariant-loop-mark
invariant-loop-mark l = (length l.part ≡ length l.initial.part) × (l.bound ≤ l.mark-index)
    × (take l.mark-index l.part ++ bound_of (l.c - l.bound) (drop l.mark-index l.part) ≡ bound_of l.c l.initial.part)
