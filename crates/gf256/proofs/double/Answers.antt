use Rattle.std.proofs.Common.{◌≡◌, sym, ap, ap₂, ◌∙◌, ℕ, ◌*◌, ◌%◌, ◌<◌, ◌≤◌, mod-eq_of_lt, arith, bit_xor}
use native.Mathlib.Nat.{div-eq_of_lt-le}
use native.Mathlib.Decide.{dec_lt}
use Rattle.binary_field.specs.Xor.{◌⊕◌}
use Rattle.binary_field.specs.XorLaws.{⊕-bits, ⊕-zero-r}
use Rattle.binary_field.specs.Product.{double}
use Rattle.binary_field.specs.ProductLaws.{double-low, double-high}
use Rattle.gf256.proofs.double.Goals as goal

-- below 128 nothing is shifted out; from 128 on the bit 8 is set, and 285 is 29 without it
doubled : (a r : ℕ) → a < 256 → (a < 128 → r ≡ 0) → (128 ≤ a → r ≡ 29) → bit_xor (a * 2 % 256) r ≡ double 8 285 a
doubled a r s low high = elim (dec_lt a 128) [
  | yes h ↦
      (let w : a * 2 < 256 = omega arith in
      ⊕-bits (a * 2 % 256) r ∙ ap₂ ◌⊕◌ (mod-eq_of_lt w) (low h) ∙ ⊕-zero-r (a * 2) ∙ sym (double-low 8 285 a w))
  | no n ↦
      (let h : 128 ≤ a = omega arith in
      let l : 1 * 256 ≤ a * 2 = omega arith in
      let u : a * 2 < 2 * 256 = omega arith in
      ⊕-bits (a * 2 % 256) r ∙ ap (λ x. (a * 2 % 256) ⊕ x) (high h) ∙ sym (double-high 8 285 a (ap (λ x. x % 2) (div-eq_of_lt-le {k = 1} 256 l u))))
]

pub returns : goal.returns
returns c = doubled c.args.a c.reduction.result (omega arith) c.reduction.ensures.value c.reduction.ensures.value_2
