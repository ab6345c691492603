use Rattle.std.proofs.Common.{◌≡◌, List, ℕ, arith, get_or, length-set}
use Rattle.binary_field.specs.Product.{product}
use Rattle.binary_field.specs.ProductLaws.{product-comm}
use Rattle.solve.proofs.Laws.{added-step, added-end}
use Rattle.solve.proofs.add.Goals as goal

pub loop-c-preserved : goal.loop-c-preserved
loop-c-preserved c =
    let a = c.args in
    let i : ℕ = c.loop-c.c in
    let y : List ℕ = a.b.now in
    let p : c.shifted_product.result ≡ product 8 285 a.f (get_or y i 0) = cc (product-comm 8 285 (get_or y i 0) a.f) in
    (simp length-set (omega arith), cc (added-step 8 285 a.f c.loop-c.row y i _ (omega arith) (omega arith) p))

pub returns : goal.returns
returns c = cc (added-end 8 285 c.args.f c.loop-c.row c.args.b.now c.loop-c.c (omega arith) (omega arith))
