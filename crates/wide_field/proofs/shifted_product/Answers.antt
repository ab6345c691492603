use Rattle.std.proofs.Common.{◌≡◌, sym, ap, ◌∙◌, ℕ, ◌/◌, ◌%◌, ◌<◌, mod-eq_of_lt, div-lt_iff_lt-mul, arith, lit<}
use native.Mathlib.Nat.{div-div-eq-div-mul}
use Rattle.binary_field.specs.Xor.{◌⊕◌}
use Rattle.binary_field.specs.XorLaws.{⊕-zero-l}
use Rattle.binary_field.specs.Product.{product}
use Rattle.wide_field.specs.Sixteenfold.{sixteenfold}
use Rattle.wide_field.specs.SixteenfoldLaws.{digits-four}
use Rattle.wide_field.proofs.shifted_product.Goals as goal

-- four bits more
step : (a b : ℕ) {p x r : ℕ} → a < 65536 → b < 65536 → p ≡ product 16 69643 a (b / 16) → x ≡ sixteenfold p → r ≡ x ⊕ product 16 69643 a (b % 16)
    → r ≡ product 16 69643 a b
step a b la lb e f g = g ∙ ap (λ y. y ⊕ product 16 69643 a (b % 16)) (f ∙ ap sixteenfold e) ∙ sym (digits-four a b la lb)

pub returns : goal.returns
returns c =
    let k = c.args in
    let a : ℕ = k.a in
    let b : ℕ = k.b in
    let la : a < 65536 = omega arith in
    let lb : b < 65536 = omega arith in
    let h : b / 4096 < 16 = (div-lt_iff_lt-mul (lit< tt)).1 lb in
    let first : c.four_bits-p.result ≡ product 16 69643 a (b / 4096) =
    c.four_bits-p.ensures ∙ ⊕-zero-l _ ∙ ap (product 16 69643 a) (mod-eq_of_lt h) in
    let second : c.four_bits-q.result ≡ product 16 69643 a (b / 256) =
    step a (b / 256) la (omega arith) (first ∙ ap (product 16 69643 a) (sym (div-div-eq-div-mul b 256 16))) c.sixteenfold.ensures
    c.four_bits-q.ensures in
    let third : c.four_bits-s.result ≡ product 16 69643 a (b / 16) =
    step a (b / 16) la (omega arith) (second ∙ ap (product 16 69643 a) (sym (div-div-eq-div-mul b 16 16))) c.sixteenfold-2.ensures
    c.four_bits-s.ensures in
    step a b la lb third c.sixteenfold-3.ensures c.four_bits.ensures
