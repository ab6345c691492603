-- Zeros after a part change none of its sums.
use Rattle.std.specs.Prelude.{◌≡◌, List, ℕ, ◌+◌, ◌-◌, ◌*◌, ◌≤◌, length, get_or}
use Rattle.std.proofs.Common.{sym, ap, ◌∙◌, arith}
use Rattle.std.proofs.Math.ListN.{get_or-eq_default}
use Rattle.binary_field.specs.Xor.{◌⊕◌}
use Rattle.binary_field.specs.XorLaws.{⊕-zero-r}
use Rattle.binary_field.specs.ProductLaws.{zero-product}
use Rattle.binary_field.specs.Sum.{sum_below}
use Rattle.binary_field.specs.SumLaws.{sum-ext, sum-zero, sum-append}
use Rattle.code.specs.Edition.{Edition, times}
use Rattle.code.specs.Word.{group_sum}
use Rattle.code.specs.StretchLaws.{own-place}
use Rattle.code_engine.specs.Padded.{Padded}

-- a sum over the places of one group
pub padded-sum : (E : Edition) {part x : List ℕ} → Padded part x → length part ≤ 16 → (h : ℕ → ℕ) → group_sum E (length x) x 0 h
    ≡ group_sum E (length part) part 0 h
unfolding group_sum
padded-sum E {part} {x} P narrow h =
    ap (λ n. sum_below n (λ j. times E (get_or x (0 * n + j) 0) (h j))) P.size
    ∙ sum-ext 16 _ _ (λ j l. ap (λ b. times E b (h j)) (ap (λ i. get_or x i 0) (own-place 16 j) ∙ P.each j l))
    ∙ ap (λ n. sum_below n f) whole ∙ sum-append (length part) (16 - length part) f
    ∙ ap (λ s. sum_below (length part) f ⊕ s)
    (sum-zero (16 - length part) _ (λ j _.
    ap (λ b. times E b (h (length part + j))) (get_or-eq_default part 0 (le-add j)) ∙ zero-product E.bits E.poly (h (length part + j))))
    ∙ ⊕-zero-r (sum_below (length part) f)
    ∙ sum-ext (length part) _ _ (λ j l. ap (λ i. times E (get_or part i 0) (h j)) (sym (own-place (length part) j)))
  where
    f : ℕ → ℕ
    f j = times E (get_or part j 0) (h j)

    whole : 16 ≡ length part + (16 - length part)
    whole = omega arith

    le-add : (j : ℕ) → length part ≤ length part + j
    le-add j = omega arith
