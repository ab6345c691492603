use Rattle.std.proofs.Common.{sym, ◌∙◌, List, ℕ, ◌<◌, mod-eq_of_lt, arith, lit<, get_or, length-set, w8}
use Rattle.code_engine.proofs.Arrays.{array-small}
use Rattle.binary_field.specs.ProductLaws.{one_product}
use Rattle.solve.proofs.Laws.{added-step, added-end}
use Rattle.solve.proofs.sum.Goals as goal

pub loop-c-preserved : goal.loop-c-preserved
loop-c-preserved c =
    let a = c.args in
    let i : ℕ = c.loop-c.c in
    let y : List ℕ = a.b.now in
    let small : get_or y i 0 < 256 = (array-small w8 16 y _ c.type_inv.b.1) i in (
      simp length-set (omega arith),
      cc (added-step 8 285 1 c.loop-c.row y i (get_or y i 0) (omega arith) (omega arith)
          (sym (one_product 8 285 (lit< tt) (get_or y i 0) ∙ mod-eq_of_lt small))),
    )

pub returns : goal.returns
returns c = cc (added-end 8 285 1 c.loop-c.row c.args.b.now c.loop-c.c (omega arith) (omega arith))
