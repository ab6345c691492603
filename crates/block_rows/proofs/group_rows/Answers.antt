use Rattle.std.proofs.Common.{ap, ◌∙◌, length, get_or}
use Rattle.code.specs.Edition.{times}
use Rattle.code.specs.Marks.{lost_in}
use Rattle.byte_edition.specs.Edition.{byte_edition}
use Rattle.code_engine.specs.Elimination.{entry}
use Rattle.block_laws.specs.StepsLaws.{reduced-check}
use Rattle.block_rows.proofs.group_rows.Goals as goal

-- src/lib.rt:73:1
pub returns : goal.returns
returns c =
    let a = c.args in
    let k = a.bound.now in
    reduced-check a.c a.g a.first a.second c.scale-s.result c.requires.coefficients
    (λ j l. c.scale-s.ensures j l ∙ ap (times byte_edition (get_or a.second j 0)) c.power_of_two-f.ensures) (length k) k (lost_in (length k) k 0)
    (entry c.group_rows.result)
    c.requires.in_bounds.1 c.requires.in_bounds.2 (c.group_rows.ensures c.requires.in_bounds.1 c.requires.in_bounds.0 c.requires.in_bounds.2)
