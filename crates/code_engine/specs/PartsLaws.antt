-- The sums of a word from those of its groups' stretches.
use Rattle.std.specs.Prelude.{◌≡◌, refl, Bool, true, false, List, ℕ, ◌+◌, ◌-◌, ◌*◌, ◌<◌, T, length, get_or, take, drop}
use Rattle.std.proofs.Common.{sym, ◌∙◌}
use Rattle.std.proofs.Math.Path.{ap₂}
use Rattle.std.proofs.Math.Dec.{eqb}
use Rattle.counting.specs.Test.{all_below}
use Rattle.binary_field.specs.ProductLaws.{product-left-comm}
use Rattle.binary_field.specs.SumLaws.{sum-ext, sum-scale}
use Rattle.code.specs.Edition.{Edition, times, raised}
use Rattle.code.specs.Word.{group_sum, coefficient, second_coefficient, is_local}
use Rattle.code.specs.StretchLaws.{stretch-sum}
use Rattle.code.specs.Lent.{LentIn}
use Rattle.code.specs.LentLaws.{part-stretch, part_length}

-- a test that would show what is not so
pub is_false : (b : Bool) → (T b → ⊥) → b ≡ false
is_false true h = absurd (h tt)
is_false false h = refl

-- the factor 2^g of a group stands before its sum
pub second-coefficient-group : (E : Edition) (w c g : ℕ) (part : List ℕ)
    → times E (raised E 2 g) (group_sum E w part 0 (λ j. raised E (coefficient E c j) E.small)) ≡ group_sum E w part 0 (second_coefficient E c g)
unfolding group_sum second_coefficient
second-coefficient-group E w c g part =
    sym
    (sum-ext w _ _ (λ j _. product-left-comm E.bits E.poly (get_or part (0 * w + j) 0) (raised E 2 g) (raised E (coefficient E c j) E.small))
    ∙ sum-scale E.bits E.poly w (raised E 2 g) _)

module _ (E : Edition) {m w c : ℕ} {word : List ℕ} (L : LentIn E.limits m w c word) (g : ℕ) (l : g < m) {part : List ℕ}
    (is : part ≡ take (g * w + w - g * w) (drop (g * w) word)) where
  -- the group's own equations
  pub part-local : is_local E (length part) c part 0 ≡ is_local E w c word g
  unfolding is_local
  part-local =
      ap₂ (λ n x. is_local E n c x 0) (part_length L g l is) (part-stretch L g l is)
      ∙ (λ i. all_below c (λ e. eqb (stretch-sum E w g word (λ j. raised E (E.locator j) e) i) 0))
