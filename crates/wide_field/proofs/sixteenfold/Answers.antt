use Rattle.std.proofs.Common.{◌≡◌, ap, ◌∙◌, ℕ, arith, bit_xor}
use Rattle.binary_field.specs.Xor.{◌⊕◌}
use Rattle.binary_field.specs.XorLaws.{⊕-bits}
use Rattle.wide_field.specs.SixteenfoldLaws.{sixteen-is}
use Rattle.wide_field.proofs.sixteenfold.Goals as goal

-- exclusive or is the sum
five : (a b c d e : ℕ) → bit_xor a (bit_xor b (bit_xor c (bit_xor d e))) ≡ a ⊕ (b ⊕ (c ⊕ (d ⊕ e)))
five a b c d e =
    ⊕-bits a _ ∙ ap (λ x. a ⊕ x) (⊕-bits b _ ∙ ap (λ x. b ⊕ x) (⊕-bits c _ ∙ ap (λ x. c ⊕ x) (⊕-bits d e)))

pub returns : goal.returns
returns c = let a = c.args in five _ _ _ _ _ ∙ sixteen-is a.a (omega arith)
