use Rattle.std.proofs.Common.{◌∙◌}
use Rattle.code.specs.Edition.{raised}
use Rattle.wide_shape.specs.Edition.{wide_edition}
use Rattle.code_engine.specs.PaddedLaws.{padded-sum}
use Rattle.wide_sums.proofs.short_sums.Goals as goal

pub returns : goal.returns
returns c =
    let p = c.padded-x in
    λ e l. c.gather.ensures e l ∙ padded-sum wide_edition p.ensures c.requires.part_len_bound (λ j. raised wide_edition (wide_edition.locator j) e)
