use Rattle.std.proofs.Common.{sym, ap, eq-eqb, ne_eqb}
use Rattle.code.specs.Refusals.{refuse}
use Rattle.code.specs.Limits.{retired_refusal}
use Rattle.answers.proofs.retired_refusal.Goals as goal

pub returns-then-c-eq-RETIRED_CHECKS : goal.returns-then-c-eq-RETIRED_CHECKS
unfolding retired_refusal
returns-then-c-eq-RETIRED_CHECKS c = sym (ap (refuse 29) (eq-eqb c.args.c 4 c.if-c-eq-RETIRED_CHECKS.true))

pub returns-else-c-eq-RETIRED_CHECKS : goal.returns-else-c-eq-RETIRED_CHECKS
unfolding retired_refusal
returns-else-c-eq-RETIRED_CHECKS c = sym (ap (refuse 29) (ne_eqb c.args.c 4 c.if-c-eq-RETIRED_CHECKS.false))
