use Rattle.std.proofs.Common.{ap, ◌∙◌, length, get_or, set, replicate}
use Rattle.binary_field.specs.Sum.{inner_product}
use Rattle.byte_edition.specs.Rows.{second_rows, no_row}
use Rattle.block_laws.specs.StepsLaws.{unit-long, second-inner}
use Rattle.block_rows.proofs.second_coefficient.Goals as goal

pub returns : goal.returns
returns c =
    let a = c.args in
    c.second_sum.ensures ∙ ap (λ e. inner_product 8 285 (length e) e (get_or second_rows a.i no_row)) c.unit.ensures
    ∙ ap (λ n. inner_product 8 285 n (set (replicate 16 0) a.j 1) (get_or second_rows a.i no_row)) (unit-long a.j)
    ∙ second-inner a.i c.requires.0 a.j c.requires.1
