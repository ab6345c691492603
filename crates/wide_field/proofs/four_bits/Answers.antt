use Rattle.std.proofs.Common.{◌≡◌, sym, ap, ◌∙◌, subst, ℕ, suc, ◌+◌, ◌-◌, ◌/◌, ◌%◌, ◌^◌, ◌<◌, div-lt_iff_lt-mul, pow-suc, arith, lit<}
use Rattle.binary_field.specs.Xor.{◌⊕◌}
use Rattle.binary_field.specs.XorLaws.{⊕-bits, ⊕-zero-r}
use Rattle.binary_field.specs.Product.{product}
use Rattle.binary_field.specs.ProductLaws.{double-lt, product-zero}
use Rattle.wide_field.specs.SixteenfoldLaws.{digit_set, digit_clear}
use Rattle.wide_field.proofs.four_bits.Goals as goal
use Rattle.wide_field.proofs.four_bits.Goals.{then-rest-eq1, else-rest-eq1}

-- one bit less
fewer : (i n : ℕ) → i < 4 → n < 2 ^ (4 - i) → n / 2 < 2 ^ (4 - (i + 1))
fewer i n l h =
    let e : 4 - i ≡ suc (4 - (i + 1)) = omega arith in
    (div-lt_iff_lt-mul (lit< tt)).1 (subst (λ x. n < x) (ap (λ k. 2 ^ k) e ∙ pow-suc 2 (4 - (i + 1))) h)

pub loop-preserved : goal.loop-preserved
loop-preserved c =
    let l = c.loop in
    let a = c.args in
    let s : l.rest < 65536 = omega arith in
    let d = c.double-shifted.ensures in (
      subst (λ x. x < 65536) (sym d) (double-lt 16 69643 l.shifted),
      omega arith,
      fewer l.counter l.rest (omega arith) l.invariant.2,
      elim c.if-rest-eq1.branch [
        | then-rest-eq1 w ↦ (cc (⊕-bits l.sum l.shifted, digit_set l.sum l.shifted l.rest l.invariant.0 s w.if-rest-eq1.true))
        | else-rest-eq1 w ↦ (let z : l.rest % 2 ≡ 0 = omega (arith, w.if-rest-eq1.false) in cc (digit_clear l.sum l.shifted l.rest l.invariant.0 s z))
      ],
    )

pub returns : goal.returns
returns c =
    let l = c.loop in
    let e : 4 - l.counter ≡ 0 = omega arith in
    let h : l.rest < 2 ^ 0 = subst (λ k. l.rest < 2 ^ k) e l.invariant.2 in
    let z : l.rest ≡ 0 = omega arith in
    sym (ap (λ x. l.sum ⊕ x) (ap (product 16 69643 l.shifted) z ∙ product-zero 16 69643 l.shifted) ∙ ⊕-zero-r l.sum) ∙ l.invariant.3
