use Rattle.std.proofs.Common.{◌-◌}
use Rattle.catalogue_compact.specs.Laws.{Dropping}
use Rattle.catalogue_text.specs.Buffers.{catalogue_in}
use Rattle.catalogue_compact.proofs.drop_gone.Given as goal

abbrev pub invariant-loop-at : goal.invariant-loop-at
invariant-loop-at l = Dropping l.initial.buffer l.size l.first (catalogue_in l.initial.buffer l.size).list l.buffer l.at l.to

abbrev pub decreases-loop-at : goal.decreases-loop-at
decreases-loop-at l = l.size - l.at
