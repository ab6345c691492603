-- Laws: A word that is zero outside one group: its sums are those of the group's stretch.
use Rattle.std.specs.Prelude.{◌≡◌, List, ℕ, suc, ◌+◌, ◌*◌, ◌<◌, ◌≤◌, ◌^◌, length}
use Rattle.std.proofs.Common.{sym, ◌∙◌, subst, suc-mul, mul-le-mul_right, arith}
use Rattle.std.proofs.Math.Path.{ap}
use Rattle.std.proofs.Math.Decide.{dec_lt}
use Rattle.std.proofs.Math.ListN.{get_or}
use Rattle.std.proofs.lemmas.List.{length-replicate}
use Rattle.binary_field.specs.ProductLaws.{zero-product}
use Rattle.binary_field.specs.SumLaws.{sum-ext, sum-zero, sum-single}
use Rattle.code.specs.Edition.{Edition, times}
use Rattle.code.specs.Word.{group_sum, word_sum, Symbols}
use Rattle.code.specs.Blank.{blank}
use Rattle.code.specs.BlankLaws.{blank-at}
use Rattle.code.specs.StretchLaws.{with-length, with-inside, with-before, with-after, place-cases, own-place}
use Rattle.code.specs.Lone.{lone}

module _ (m w g : ℕ) (part : List ℕ) (l : g < m) (size : length part ≡ w) where
  fits : suc g * w ≤ length (blank (m * w))
  fits = subst (λ n. suc g * w ≤ n) (sym (length-replicate (m * w) 0)) (mul-le-mul_right w l)

  pub lone-inside : (j : ℕ) → j < w → get_or (lone m w g part) (g * w + j) 0 ≡ get_or part j 0
  lone-inside j h = with-inside w g (blank (m * w)) fits part size j h

  pub lone-before : (p : ℕ) → p < g * w → get_or (lone m w g part) p 0 ≡ 0
  lone-before p h = with-before w g (blank (m * w)) fits part size p h ∙ blank-at (m * w) p

  pub lone-after : (p : ℕ) → suc g * w ≤ p → get_or (lone m w g part) p 0 ≡ 0
  lone-after p h = with-after w g (blank (m * w)) fits part size p h ∙ blank-at (m * w) p

  -- a place of another group
  lone-other : (i j : ℕ) → ¬ (i ≡ g) → j < w → get_or (lone m w g part) (i * w + j) 0 ≡ 0
  lone-other i j n h = elim (dec_lt i g) [
    | yes b ↦ lone-before (i * w + j) (let z : suc i * w ≤ g * w = mul-le-mul_right w b in let e = suc-mul i w in omega arith)
    | no b ↦ (let k : suc g ≤ i = omega arith in lone-after (i * w + j) (let z : suc g * w ≤ i * w = mul-le-mul_right w k in omega arith))
  ]

  module _ (E : Edition) where
    pub lone-own : (h : ℕ → ℕ) → group_sum E w (lone m w g part) g h ≡ group_sum E w part 0 h
    unfolding group_sum
    lone-own h = sum-ext w _ _ (λ j k. ap (λ b. times E b (h j)) (lone-inside j k ∙ ap (λ n. get_or part n 0) (sym (own-place w j))))

    pub lone-zero : (i : ℕ) → ¬ (i ≡ g) → (h : ℕ → ℕ) → group_sum E w (lone m w g part) i h ≡ 0
    unfolding group_sum
    lone-zero i n h = sum-zero w _ (λ j k. ap (λ b. times E b (h j)) (lone-other i j n k) ∙ zero-product E.bits E.poly (h j))

    pub lone-word : (h : ℕ → ℕ → ℕ) → word_sum E m w (lone m w g part) h ≡ group_sum E w part 0 (h g)
    unfolding word_sum
    lone-word h = sum-single m g _ l (λ i _ n. lone-zero i n (h i)) ∙ lone-own (h g)
