use Rattle.std.proofs.Common.{refl, ◌∙◌, arith}
use Rattle.wide_sums.specs.PowerSumsLaws.{sums_first, sums-weighted}
use Rattle.wide_across.proofs.group_sums.Goals as goal

pub returns-clause-first_value : goal.returns-clause-first_value
returns-clause-first_value c = λ narrow few.
    let a = c.args in
    c.weighted-first.ensures ∙ sums_first a.part.now c.power_sums-sums.result a.c _ (c.power_sums-sums.ensures.power_sums narrow (omega arith)) narrow
    (omega arith)

pub returns-clause-second_value : goal.returns-clause-second_value
returns-clause-second_value c = λ narrow few.
    let a = c.args in
    c.doubled-second.ensures
    ∙ sums-weighted a.part.now c.power_sums-sums.result a.c _ (c.power_sums-sums.ensures.power_sums narrow (omega arith)) narrow (omega arith) a.g _ _
    refl c.weighted-s.ensures
