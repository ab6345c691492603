-- Laws: The zero word: every sum of it is zero.
use Rattle.std.specs.Prelude.{◌≡◌, ℕ, ◌+◌, ◌*◌, ◌<◌, ◌^◌, get_or, replicate}
use Rattle.std.proofs.Common.{sym, ◌∙◌, subst, arith, pow_pos}
use Rattle.std.proofs.Math.Path.{ap}
use Rattle.std.proofs.Math.Decide.{dec_lt}
use Rattle.std.proofs.lemmas.List.{length-replicate, get_or-replicate}
use Rattle.std.proofs.Math.ListN.{get_or-eq_default}
use Rattle.binary_field.specs.ProductLaws.{zero-product}
use Rattle.binary_field.specs.SumLaws.{sum-zero}
use Rattle.code.specs.Edition.{Edition, times}
use Rattle.code.specs.Word.{group_sum, word_sum, Symbols, Codeword}
use Rattle.code.specs.WordLaws.{is-codeword}
use Rattle.code.specs.Blank.{blank}

pub blank-at : (n p : ℕ) → get_or (blank n) p 0 ≡ 0
blank-at n p = elim (dec_lt p n) [
  | yes h ↦ get_or-replicate n p 0 0 h
  | no h ↦ get_or-eq_default (replicate n 0) 0 (omega (arith, length-replicate {A = ℕ} n 0))
]

module _ (E : Edition) (n : ℕ) where
  pub blank-symbols : Symbols E n (blank n)
  blank-symbols = record { size = length-replicate n 0; each = λ p. subst (λ b. b < 2 ^ E.bits) (sym (blank-at n p)) (pow_pos E.bits) }

  pub blank-group : (w g : ℕ) (h : ℕ → ℕ) → group_sum E w (blank n) g h ≡ 0
  unfolding group_sum
  blank-group w g h = sum-zero w _ (λ j _. ap (λ b. times E b (h j)) (blank-at n (g * w + j)) ∙ zero-product E.bits E.poly (h j))

  pub blank-word : (m w : ℕ) (h : ℕ → ℕ → ℕ) → word_sum E m w (blank n) h ≡ 0
  unfolding word_sum
  blank-word m w h = sum-zero m _ (λ g _. blank-group w g (h g))

pub blank-codeword : (E : Edition) (m w c : ℕ) → Codeword E m w c (blank (m * w))
blank-codeword E m w c = record {
  symbols = blank-symbols E (m * w);
  zero = is-codeword E m w c (blank (m * w)) (record {
    locals = λ g _ e _. blank-group E (m * w) w g _;
    first = blank-word E (m * w) m w _;
    second = blank-word E (m * w) m w _;
  });
}
