use Rattle.std.proofs.Common.{◌≡◌, sym, ap, ap₂, ◌∙◌, ℕ, ◌*◌, ◌%◌, ◌<◌, ◌≤◌, mod-eq_of_lt, arith, bit_xor}
use native.Mathlib.Nat.{div-eq_of_lt-le}
use native.Mathlib.Decide.{dec_lt}
use Rattle.binary_field.specs.Xor.{◌⊕◌}
use Rattle.binary_field.specs.XorLaws.{⊕-bits, ⊕-zero-r}
use Rattle.binary_field.specs.Product.{double}
use Rattle.binary_field.specs.ProductLaws.{double-low, double-high}
use Rattle.wide_field.proofs.double.Goals as goal

-- below 32,768 nothing is shifted out; from 32,768 on the bit 16 is set, and 69643 is 4107 without it
doubled : (a r : ℕ) → a < 65536 → (a < 32768 → r ≡ 0) → (32768 ≤ a → r ≡ 4107) → bit_xor (a * 2 % 65536) r ≡ double 16 69643 a
doubled a r s low high = elim (dec_lt a 32768) [
  | yes h ↦
      (let w : a * 2 < 65536 = omega arith in
      ⊕-bits (a * 2 % 65536) r ∙ ap₂ ◌⊕◌ (mod-eq_of_lt w) (low h) ∙ ⊕-zero-r (a * 2) ∙ sym (double-low 16 69643 a w))
  | no n ↦
      (let h : 32768 ≤ a = omega arith in
      let l : 1 * 65536 ≤ a * 2 = omega arith in
      let u : a * 2 < 2 * 65536 = omega arith in
      ⊕-bits (a * 2 % 65536) r ∙ ap (λ x. (a * 2 % 65536) ⊕ x) (high h) ∙ sym (double-high 16 69643 a (ap (λ x. x % 2) (div-eq_of_lt-le {k = 1} 65536 l u))))
]

pub returns : goal.returns
returns c = doubled c.args.a c.reduction.result (omega arith) c.reduction.ensures.value c.reduction.ensures.value_2
