use Rattle.code_loops.specs.SpreadLaws.{Spread}
use Rattle.places.proofs.spread_data.Given as goal

abbrev pub invariant-loop-g : goal.invariant-loop-g
invariant-loop-g g l = Spread g.E.Edition.ZERO l.m l.w l.c l.symbols l.word l.i l.g
