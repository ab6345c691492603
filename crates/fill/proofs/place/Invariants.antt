use Rattle.std.proofs.Common.{◌≡◌, length}
use Rattle.code_engine.specs.Placed.{placed}
use Rattle.fill.proofs.place.Given as goal

abbrev pub invariant-loop-i : goal.invariant-loop-i
invariant-loop-i l = (length l.part ≡ length l.initial.part) × (l.part ≡ placed l.initial.part l.at l.rows l.i)
