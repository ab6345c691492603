use Rattle.std.proofs.Common.{ap, ◌∙◌, arith, set, refl}
use Rattle.code_engine.specs.Elimination.{cleared, normalized}
use Rattle.solve.proofs.Laws.{swap-exchanged, column-found, column-none}
use Rattle.solve.proofs.eliminate_column.Goals as goal

pub returns-in-Some : goal.returns-in-Some
unfolding normalized
returns-in-Some c =
    let a = c.args in
    let i = c.in-Some.i in
    let found = c.in-Some.ensures.some in
    let swapped = c.swap.ensures.after ∙ swap-exchanged a.rows.now a.j i (omega arith) (omega (arith, found.1)) in
    c.clear.ensures ∙ ap (λ A. cleared 8 285 A a.j a.t) (ap (set _ a.j) c.normalize.ensures)
    ∙ column-found 8 285 a.rows.now a.j a.t i _ found.0 found.1 swapped

pub returns-in_default : goal.returns-in_default
returns-in_default c =
    let a = c.args in
    column-none 8 285 a.rows.now a.j a.t _ refl (rw c.in_default.is at c.pivot.ensures.none)
