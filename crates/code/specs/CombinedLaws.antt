-- Laws: A word plus multiples of others: its sums are the same combination of theirs, so codewords combine to codewords.
use Rattle.std.specs.Prelude.{◌≡◌, List, ℕ, suc, ◌+◌, ◌*◌, ◌<◌, ◌≤◌, ◌^◌}
use Rattle.std.proofs.Common.{sym, ap₂, ◌∙◌, suc-mul, mul-le-mul_right, arith, pow_pos}
use Rattle.std.proofs.Math.Path.{ap, subst}
use Rattle.std.proofs.Math.Decide.{dec_lt}
use Rattle.std.proofs.Math.ListN.{length, get_or, get_or-eq_default}
use Rattle.binary_field.specs.Xor.{◌⊕◌}
use Rattle.binary_field.specs.XorLaws.{⊕-lt, ⊕-self}
use Rattle.binary_field.specs.ProductLaws.{product_lt, product-zero, add-product, product-assoc}
use Rattle.binary_field.specs.Sum.{sum_below}
use Rattle.binary_field.specs.SumLaws.{sum-ext, sum-zero, sum-add, sum_lt, sum-swap, sum-scale, scale-sum}
use Rattle.code.specs.Edition.{Edition, times}
use Rattle.code.specs.Word.{group_sum, word_sum, Symbols, Codeword}
use Rattle.code.specs.WordLaws.{equations, is-codeword}
use Rattle.code.specs.DeterminedLaws.{list_length, list_at}
use Rattle.code.specs.Combined.{combined}

pub place-less : (m w g j : ℕ) → g < m → j < w → g * w + j < m * w
place-less m w g j l k = let z : suc g * w ≤ m * w = mul-le-mul_right w l in let e = suc-mul g w in omega arith

module _ (E : Edition) (m w x : ℕ) (base : List ℕ) (u : ℕ → ℕ) (H : ℕ → List ℕ) where
  pub combined-at : (p : ℕ) → p < m * w → get_or (combined E (m * w) base x u H) p 0 ≡ get_or base p 0 ⊕ sum_below x (λ i. times E (u i) (get_or (H i) p 0))
  unfolding combined
  combined-at p l = list_at (m * w) _ p l

  -- sums of the combination
  pub combined-group : (g : ℕ) (h : ℕ → ℕ) → g < m
      → group_sum E w (combined E (m * w) base x u H) g h ≡ group_sum E w base g h ⊕ sum_below x (λ i. times E (u i) (group_sum E w (H i) g h))
  unfolding group_sum
  combined-group g h l =
      sum-ext w _ (λ j. times E (get_or base (g * w + j) 0) (h j) ⊕ sum_below x (λ i. times E (u i) (times E (get_or (H i) (g * w + j) 0) (h j)))) (λ j k. term j k)
      ∙ sum-add w _ _
      ∙ ap (λ s. sum_below w (λ j. times E (get_or base (g * w + j) 0) (h j)) ⊕ s)
      (sum-swap w x _ ∙ sum-ext x _ _ (λ i _. sum-scale E.bits E.poly w (u i) (λ j. times E (get_or (H i) (g * w + j) 0) (h j))))
    where
      term : (j : ℕ) → j < w → times E (get_or (combined E (m * w) base x u H) (g * w + j) 0) (h j)
          ≡ times E (get_or base (g * w + j) 0) (h j) ⊕ sum_below x (λ i. times E (u i) (times E (get_or (H i) (g * w + j) 0) (h j)))
      term j k =
          ap (λ b. times E b (h j)) (combined-at (g * w + j) (place-less m w g j l k)) ∙ add-product E.bits E.poly _ _ (h j)
          ∙ ap (λ s. times E (get_or base (g * w + j) 0) (h j) ⊕ s)
          (sym (scale-sum E.bits E.poly x (h j) _) ∙ sum-ext x _ _ (λ i _. product-assoc E.bits E.poly (u i) (get_or (H i) (g * w + j) 0) (h j)))

  pub combined-word : (h : ℕ → ℕ → ℕ)
      → word_sum E m w (combined E (m * w) base x u H) h ≡ word_sum E m w base h ⊕ sum_below x (λ i. times E (u i) (word_sum E m w (H i) h))
  unfolding word_sum
  combined-word h =
      sum-ext m _ _ (λ g l. combined-group g (h g) l) ∙ sum-add m _ _
      ∙ ap (λ s. sum_below m (λ g. group_sum E w base g (h g)) ⊕ s)
      (sum-swap m x _ ∙ sum-ext x _ _ (λ i _. sum-scale E.bits E.poly m (u i) (λ g. group_sum E w (H i) g (h g))))

  pub combined-symbols : Symbols E (m * w) base → ((i : ℕ) → u i < 2 ^ E.bits) → Symbols E (m * w) (combined E (m * w) base x u H)
  unfolding combined
  combined-symbols s small = record { size = list_length (m * w) _; each = each }
    where
      each : (p : ℕ) → get_or (combined E (m * w) base x u H) p 0 < 2 ^ E.bits
      each p = elim (dec_lt p (m * w)) [
        | yes l ↦
            subst (λ n. n < 2 ^ E.bits) (sym (combined-at p l))
            (⊕-lt E.bits _ _ (s.each p) (sum_lt E.bits x _ (λ i _. product_lt E.bits E.poly (u i) (get_or (H i) p 0))))
        | no l ↦
            (let k : length (combined E (m * w) base x u H) ≤ p = omega
            (arith, list_length (m * w) (λ p. get_or base p 0 ⊕ sum_below x (λ i. times E (u i) (get_or (H i) p 0)))) in
            subst (λ n. n < 2 ^ E.bits) (sym (get_or-eq_default (combined E (m * w) base x u H) 0 k)) (pow_pos E.bits))
      ]

  -- codewords combine to a codeword
  pub combined-codeword : (c : ℕ) → Codeword E m w c base → ((i : ℕ) → i < x → Codeword E m w c (H i)) → ((i : ℕ) → u i < 2 ^ E.bits)
      → Codeword E m w c (combined E (m * w) base x u H)
  combined-codeword c B C small = record {
    symbols = combined-symbols B.symbols small;
    zero = is-codeword E m w c (combined E (m * w) base x u H) (record {
      locals = λ g l e h.
          combined-group g _ l ∙ ap₂ ◌⊕◌ ((equations E m w c base B.zero).locals g l e h)
          (none _ (λ i k. (equations E m w c (H i) (C i k).zero).locals g l e h)) ∙ ⊕-self 0;
      first = combined-word _ ∙ ap₂ ◌⊕◌ (equations E m w c base B.zero).first (none _ (λ i k. (equations E m w c (H i) (C i k).zero).first)) ∙ ⊕-self 0;
      second = combined-word _ ∙ ap₂ ◌⊕◌ (equations E m w c base B.zero).second (none _ (λ i k. (equations E m w c (H i) (C i k).zero).second)) ∙ ⊕-self 0;
    });
  }
    where
      none : (f : ℕ → ℕ) → ((i : ℕ) → i < x → f i ≡ 0) → sum_below x (λ i. times E (u i) (f i)) ≡ 0
      none f z = sum-zero x _ (λ i k. ap (times E (u i)) (z i k) ∙ product-zero E.bits E.poly (u i))
