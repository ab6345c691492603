use Rattle.std.proofs.Common.{◌∙◌}
use Rattle.syndrome.specs.PartsLaws.{padded-local}
use Rattle.syndrome.proofs.local_zero.Goals as goal

pub returns-clause-value : goal.returns-clause-value
returns-clause-value c = λ narrow _. c.zero_sums-2.ensures ∙ padded-local c.padded-x.ensures narrow c.args.c
