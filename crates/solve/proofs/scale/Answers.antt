use Rattle.std.proofs.Common.{List, ℕ, arith, get_or, length-set}
use Rattle.binary_field.specs.ProductLaws.{product-comm}
use Rattle.solve.proofs.Laws.{scaled-step, scaled-end}
use Rattle.solve.proofs.scale.Goals as goal

pub loop-x-preserved : goal.loop-x-preserved
loop-x-preserved c =
    let a = c.args in
    let x : List ℕ = c.loop-x.row in
    let i : ℕ = c.loop-x.x-index in
    (simp length-set (omega arith), cc (scaled-step 8 285 a.f x i c.shifted_product.result (omega arith) (cc (product-comm 8 285 (get_or x i 0) a.f))))

pub returns : goal.returns
returns c = cc (scaled-end 8 285 c.args.f c.loop-x.row c.loop-x.x-index (omega arith))
