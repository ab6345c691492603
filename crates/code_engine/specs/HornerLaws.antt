-- Laws: The two rows that the sums across are worked from. Their steps, and that their sums with a row of coefficients are the sums over the word.
use Rattle.std.specs.Prelude.{◌≡◌, List, ℕ, suc, ◌+◌, ◌*◌, ◌<◌, ◌^◌}
use Rattle.std.proofs.Math.Path.{sym, ap, ap₂}
use Rattle.std.proofs.Common.{◌∙◌, zero-add, arith}
use Rattle.std.proofs.Math.Nat.{mod-eq_of_lt}
use Rattle.std.proofs.Math.ListN.{get_or}
use Rattle.binary_field.specs.Xor.{◌⊕◌}
use Rattle.binary_field.specs.XorLaws.{⊕-zero-l, ⊕-comm}
use Rattle.binary_field.specs.Product.{double}
use Rattle.binary_field.specs.ProductLaws.{double-low, product_lt, product-comm, product-assoc, one_product}
use Rattle.binary_field.specs.PowerLaws.{power_zero, power-suc, double-is}
use Rattle.binary_field.specs.Sum.{sum_below}
use Rattle.binary_field.specs.SumLaws.{sum-none, sum-suc, sum-ext, sum-append, sum_lt, sum-scale, scale-sum, sum-swap}
use Rattle.code.specs.Edition.{Edition, Sound, times, raised}
use Rattle.code.specs.Word.{group_sum, word_sum, coefficient, second_coefficient, first_across, second_across}
use Rattle.code.specs.StretchLaws.{own-place}
use Rattle.code_engine.specs.Horner.{column_sum, horner_sum, HornerRows}

-- the first term apart
sum-front : (n : ℕ) (f : ℕ → ℕ) → sum_below (suc n) f ≡ f 0 ⊕ sum_below n (λ i. f (suc i))
sum-front n f =
    let e : suc n ≡ 1 + n = omega arith in
    ap (λ i. sum_below i f) e ∙ sum-append 1 n f
    ∙ ap₂ ◌⊕◌ (sum-suc 0 f ∙ ap (λ s. s ⊕ f 0) (sum-none f) ∙ ⊕-zero-l (f 0))
    (sum-ext n _ _ (λ i _. let d : 1 + i ≡ suc i = omega arith in ap f d))

module _ (w : ℕ) (word : List ℕ) where
  -- place j of the group after g and i more
  next : (g i j : ℕ) → get_or word ((g + suc i) * w + j) 0 ≡ get_or word ((suc g + i) * w + j) 0
  next g i j = let e : g + suc i ≡ suc g + i = omega arith in ap (λ a. get_or word (a * w + j) 0) e

  here : (g j : ℕ) → get_or word ((g + 0) * w + j) 0 ≡ get_or word (g * w + j) 0
  here g j = let e : g + 0 ≡ g = omega arith in ap (λ a. get_or word (a * w + j) 0) e

  column-more : (g n j : ℕ) → column_sum w word g (suc n) j ≡ column_sum w word (suc g) n j ⊕ get_or word (g * w + j) 0
  unfolding column_sum
  column-more g n j =
      sum-front n (λ i. get_or word ((g + i) * w + j) 0) ∙ ap₂ ◌⊕◌ (here g j) (sum-ext n _ _ (λ i _. next g i j))
      ∙ ⊕-comm (get_or word (g * w + j) 0) (column_sum w word (suc g) n j)

module _ {E : Edition} (S : Sound E) (w : ℕ) (word : List ℕ) where
  -- twice a is the product by 2
  twice : (a : ℕ) → a < 2 ^ E.bits → double E.bits E.poly a ≡ times E 2 a
  twice a h = double-is E.bits E.poly S.facts.pos a h ∙ ap (λ t. times E t a) (double-low E.bits E.poly 1 S.facts.two-lt)

  -- one step of Horner's rule
  horner-more : (g n j : ℕ) → get_or word (g * w + j) 0 < 2 ^ E.bits
      → horner_sum E w word g (suc n) j ≡ double E.bits E.poly (horner_sum E w word (suc g) n j) ⊕ get_or word (g * w + j) 0
  unfolding horner_sum
  horner-more g n j l =
      sum-front n (λ i. times E (raised E 2 i) (get_or word ((g + i) * w + j) 0))
      ∙ ap₂ ◌⊕◌
      (ap₂ (times E) (power_zero E.bits E.poly 2) (here w word g j)
      ∙ one_product E.bits E.poly S.facts.pos (get_or word (g * w + j) 0) ∙ mod-eq_of_lt l)
      (sum-ext n _ _ (λ i _.
      ap₂ (times E) (power-suc E.bits E.poly 2 i) (next w word g i j)
      ∙ product-assoc E.bits E.poly 2 (raised E 2 i) (get_or word ((suc g + i) * w + j) 0))
      ∙ sum-scale E.bits E.poly n 2 (λ i. times E (raised E 2 i) (get_or word ((suc g + i) * w + j) 0))
      ∙ sym (twice (horner_sum E w word (suc g) n j) (sum_lt E.bits n _ (λ i _. product_lt E.bits E.poly _ _))))
      ∙ ⊕-comm (get_or word (g * w + j) 0) (double E.bits E.poly (horner_sum E w word (suc g) n j))

  -- rows of zeros, before the last group
  pub rows_none : (g : ℕ) (x y : List ℕ) → ((j : ℕ) → j < w → get_or x j 0 ≡ 0) → ((j : ℕ) → j < w → get_or y j 0 ≡ 0) → HornerRows E w word g 0 x y
  unfolding column_sum horner_sum
  rows_none g x y p q = record { plain = λ j l. p j l ∙ sym (sum-none _); weighted = λ j l. q j l ∙ sym (sum-none _) }

  -- one group more: it is added to x, and to twice y
  pub rows_more : {g n : ℕ} {x y x' y' : List ℕ} → HornerRows E w word (suc g) n x y → ((p : ℕ) → get_or word p 0 < 2 ^ E.bits)
      → ((j : ℕ) → j < w → get_or x' j 0 ≡ get_or x j 0 ⊕ get_or word (g * w + j) 0)
      → ((j : ℕ) → j < w → get_or y' j 0 ≡ double E.bits E.poly (get_or y j 0) ⊕ get_or word (g * w + j) 0) → HornerRows E w word g (suc n) x' y'
  rows_more {g} {n} R small p q = record {
    plain = λ j l. p j l ∙ ap (λ s. s ⊕ get_or word (g * w + j) 0) (R.plain j l) ∙ sym (column-more w word g n j);
    weighted = λ j l.
        q j l ∙ ap (λ s. double E.bits E.poly s ⊕ get_or word (g * w + j) 0) (R.weighted j l) ∙ sym (horner-more g n j (small (g * w + j)));
  }

-- the sums of the rows of all m groups with coefficients h are those over the word; in the second 2^g stands before the coefficients of group g
module _ {E : Edition} {m w : ℕ} {word x y : List ℕ} (R : HornerRows E w word 0 m x y) where
  at-group : (i j : ℕ) → get_or word ((0 + i) * w + j) 0 ≡ get_or word (i * w + j) 0
  at-group i j = ap (λ a. get_or word (a * w + j) 0) (zero-add i)

  pub plain_rows : (h : ℕ → ℕ) → group_sum E w x 0 h ≡ word_sum E m w word (λ _. h)
  unfolding group_sum word_sum column_sum
  plain_rows h =
      sum-ext w _ _ (λ j l.
      ap (λ b. times E b (h j)) (ap (λ a. get_or x a 0) (own-place w j) ∙ R.plain j l ∙ sum-ext m _ _ (λ i _. at-group i j))
      ∙ sym (scale-sum E.bits E.poly m (h j) (λ i. get_or word (i * w + j) 0)))
      ∙ sum-swap w m (λ j i. times E (get_or word (i * w + j) 0) (h j))

  pub weighted-rows : (h : ℕ → ℕ) → group_sum E w y 0 h ≡ word_sum E m w word (λ g j. times E (raised E 2 g) (h j))
  unfolding group_sum word_sum horner_sum
  weighted-rows h =
      sum-ext w _ _ (λ j l.
      ap (λ b. times E b (h j))
      (ap (λ a. get_or y a 0) (own-place w j) ∙ R.weighted j l ∙ sum-ext m _ _ (λ i _. ap (times E (raised E 2 i)) (at-group i j)
      ∙ product-comm E.bits E.poly (raised E 2 i) (get_or word (i * w + j) 0)))
      ∙ sym (scale-sum E.bits E.poly m (h j) (λ i. times E (get_or word (i * w + j) 0) (raised E 2 i)))
      ∙ sum-ext m _ _ (λ i _. product-assoc E.bits E.poly (get_or word (i * w + j) 0) (raised E 2 i) (h j)))
      ∙ sum-swap w m (λ j i. times E (get_or word (i * w + j) 0) (times E (raised E 2 i) (h j)))

  -- with b and b^q: the two sums across
  pub first_rows : (c : ℕ) → group_sum E w x 0 (coefficient E c) ≡ first_across E m w c word
  first_rows c = plain_rows (coefficient E c)

  pub second-rows : (c : ℕ) → group_sum E w y 0 (λ j. raised E (coefficient E c j) E.small) ≡ second_across E m w c word
  unfolding second_coefficient
  second-rows c = weighted-rows (λ j. raised E (coefficient E c j) E.small)
