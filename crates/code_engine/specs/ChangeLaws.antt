-- A sum after one of its terms changes, and a group's sum after one of its symbols does.
use Rattle.std.specs.Prelude.{◌≡◌, List, ℕ, ◌+◌, ◌*◌, ◌<◌, length, get_or, set}
use Rattle.std.proofs.Common.{sym, ◌∙◌, arith, get_or-set_same, get_or-set_other}
use Rattle.std.proofs.Math.Path.{ap}
use Rattle.binary_field.specs.Xor.{◌⊕◌}
use Rattle.binary_field.specs.XorLaws.{⊕-self, ⊕-self-left}
use Rattle.binary_field.specs.ProductLaws.{add-product}
use Rattle.binary_field.specs.Sum.{sum_below}
use Rattle.binary_field.specs.SumLaws.{sum-add, sum-single}
use Rattle.code.specs.Edition.{Edition, times, raised}
use Rattle.code.specs.Word.{group_sum, local_sum}
use Rattle.code.specs.StretchLaws.{own-place}

pub sum-change : (n p : ℕ) (f g : ℕ → ℕ) → p < n → ((i : ℕ) → i < n → (i ≡ p → ⊥) → f i ≡ g i) → sum_below n g ≡ sum_below n f ⊕ (f p ⊕ g p)
sum-change n p f g h same =
    sym (⊕-self-left (sum_below n f) (sum_below n g))
    ∙ ap (λ s. sum_below n f ⊕ s) (sym (sum-add n f g) ∙ sum-single n p _ h (λ i l d. ap (λ a. a ⊕ g i) (same i l d) ∙ ⊕-self (g i)))

module _ (E : Edition) (w : ℕ) (xs : List ℕ) where
  -- the place p of group g gets the symbol v
  pub group-set : (g p v : ℕ) (h : ℕ → ℕ) → p < w → g * w + p < length xs
      → group_sum E w (set xs (g * w + p) v) g h ≡ group_sum E w xs g h ⊕ times E (get_or xs (g * w + p) 0 ⊕ v) (h p)
  unfolding group_sum
  group-set g p v h l b =
      sum-change w p (λ j. times E (get_or xs (g * w + j) 0) (h j)) _ l
      (λ j _ d. ap (λ a. times E a (h j)) (sym (get_or-set_other xs (g * w + p) (g * w + j) v 0 (omega arith))))
      ∙ ap (λ a. group_sum E w xs g h ⊕ (times E (get_or xs (g * w + p) 0) (h p) ⊕ times E a (h p))) (get_or-set_same xs (g * w + p) v 0 b)
      ∙ ap (λ a. group_sum E w xs g h ⊕ a) (sym (add-product E.bits E.poly (get_or xs (g * w + p) 0) v (h p)))

  pub local-set : (p v e : ℕ) → p < w → p < length xs
      → local_sum E w (set xs p v) 0 e ≡ local_sum E w xs 0 e ⊕ times E (get_or xs p 0 ⊕ v) (raised E (E.locator p) e)
  local-set p v e l b = rw (own-place w p) at (group-set 0 p v (λ j. raised E (E.locator j) e) l (rw (own-place w p) b))
