use Rattle.std.proofs.Common.{◌+◌, arith, eq-eqb, ne_eqb}
use Rattle.code_services.specs.PlacesRuns.{data_of}
use Rattle.places.proofs.data_in.Goals as goal

pub returns-then-saturating_sub-eq1 : goal.returns-then-saturating_sub-eq1
unfolding data_of
returns-then-saturating_sub-eq1 c = rw (eq-eqb (c.args.g + 1) c.args.m (omega arith)) (omega arith)

pub returns-else-saturating_sub-eq1 : goal.returns-else-saturating_sub-eq1
unfolding data_of
returns-else-saturating_sub-eq1 c = rw (ne_eqb (c.args.g + 1) c.args.m (λ e. c.if-saturating_sub-eq1.false (omega arith))) (omega arith)
