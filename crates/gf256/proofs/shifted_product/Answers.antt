use Rattle.std.proofs.Common.{◌≡◌, sym, ap, ◌∙◌, ℕ, suc, ◌+◌, ◌-◌, ◌%◌, arith}
use Rattle.binary_field.specs.Xor.{◌⊕◌}
use Rattle.binary_field.specs.XorLaws.{⊕-zero-l, ⊕-zero-r, ⊕-bits}
use Rattle.binary_field.specs.Product.{bit_sum, product}
use Rattle.binary_field.specs.ProductLaws.{product-of, bits-set, bits-clear, bits_none}
use Rattle.gf256.proofs.shifted_product.Goals as goal
use Rattle.gf256.proofs.shifted_product.Goals.{then-y-eq1, else-y-eq1}

pub loop-init : goal.loop-init
loop-init c = ⊕-zero-l _ ∙ sym (product-of 8 285 c.args.a c.args.b (omega arith) (omega arith))

pub loop-preserved : goal.loop-preserved
loop-preserved c =
    let l = c.loop in
    let n : ℕ = 8 - (l.counter + 1) in
    let e : 8 - l.counter ≡ suc n = omega arith in
    let t : l.r ⊕ bit_sum 8 285 (suc n) l.x l.y ≡ product 8 285 c.args.a c.args.b = rw (← e) l.invariant in elim c.if-y-eq1.branch [
      | then-y-eq1 w ↦ (cc (⊕-bits l.r l.x, bits-set 8 285 n l.r l.x l.y w.if-y-eq1.true))
      | else-y-eq1 w ↦ (let z : l.y % 2 ≡ 0 = omega (arith, w.if-y-eq1.false) in cc (bits-clear 8 285 n l.r l.x l.y z))
    ]

pub returns : goal.returns
returns c =
    let l = c.loop in
    let e : 8 - l.counter ≡ 0 = omega arith in
    sym (ap (λ s. l.r ⊕ s) (ap (λ n. bit_sum 8 285 n l.x l.y) e ∙ bits_none 8 285 l.x l.y) ∙ ⊕-zero-r l.r) ∙ l.invariant
