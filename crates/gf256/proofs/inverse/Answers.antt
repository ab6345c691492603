use Rattle.std.proofs.Common.{arith, ◌≡◌, sym, ◌∙◌, get_or, ◌%◌}
use Rattle.gf256.specs.Rows.{locators_by_low}
use Rattle.gf256.specs.RowsLaws.{inverse-found, inverse-by-norm}
use Rattle.gf256.proofs.inverse.Goals as goal

pub returns-then-locator_like-a : goal.returns-then-locator_like-a
returns-then-locator_like-a c =
    let a = c.args.a in
    let e : get_or locators_by_low (a % 16) 0 ≡ a = sym c.locator_like.ensures ∙ c.if-locator_like-a.true in
    c.locator_inverse.ensures ∙ inverse-found a (omega arith) e

pub returns : goal.returns
returns c =
    let a = c.args.a in
    cc (inverse-by-norm a (omega arith))
