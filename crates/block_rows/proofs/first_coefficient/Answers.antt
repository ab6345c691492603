use Rattle.std.proofs.Common.{ap, ◌∙◌, length, get_or, set, replicate}
use Rattle.binary_field.specs.Sum.{inner_product}
use Rattle.byte_edition.specs.Rows.{first_rows, no_row}
use Rattle.block_laws.specs.StepsLaws.{unit-long, first_inner}
use Rattle.block_rows.proofs.first_coefficient.Goals as goal

pub returns : goal.returns
returns c =
    let a = c.args in
    c.first_sum.ensures ∙ ap (λ e. inner_product 8 285 (length e) e (get_or first_rows a.i no_row)) c.unit.ensures
    ∙ ap (λ n. inner_product 8 285 n (set (replicate 16 0) a.j 1) (get_or first_rows a.i no_row)) (unit-long a.j)
    ∙ first_inner a.i c.requires.0 a.j c.requires.1
