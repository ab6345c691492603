use Rattle.std.proofs.Common.{◌≡◌, ap, ap₂, ◌∙◌, List, ℕ, ◌+◌, ◌≤◌, arith, length, get_or}
use Rattle.binary_field.specs.Xor.{◌⊕◌}
use Rattle.binary_field.specs.Product.{product}
use Rattle.code.specs.Edition.{raised}
use Rattle.code.specs.Word.{group_sum, coefficient}
use Rattle.code_engine.specs.Horner.{HornerRows}
use Rattle.code_engine.specs.HornerLaws.{first_rows, second-rows}
use Rattle.wide_shape.specs.Edition.{wide_edition}
use Rattle.wide_across.specs.declared.Sums.{Sums}
use Rattle.wide_sums.specs.PowerSums.{PowerSums}
use Rattle.wide_sums.specs.PowerSumsLaws.{sums_first, sums-second}
use Rattle.wide_across.specs.Across.{wide_across}
use Rattle.wide_across.proofs.folded_sums.Goals as goal

-- the power sums of the two rows give the sums across
from-rows : (m w c : ℕ) (word x y p q : List ℕ) (f s : ℕ) → w ≤ 256 → HornerRows wide_edition w word 0 m x y → length x ≡ w → length y ≡ w
    → PowerSums x (c + 2) p → PowerSums y (c + 2) q → f ≡ get_or p c 0 ⊕ product 16 69643 2 (get_or p (c + 1) 0)
    → s ≡ get_or q c 0 ⊕ product 16 69643 2863 (get_or q (c + 1) 0) → ◌≡◌ {A = Sums} (record { first = f; second = s }) (wide_across m w c word)
from-rows m w c word x y p q f s narrow R hx hy P Q ef es =
    let few : (c + 2) ≤ (c + 2) = omega arith in
    ap₂ (λ a b. record { first = a; second = b })
    (ef ∙ sums_first x p c (c + 2) P (omega arith) few ∙ ap (λ n. group_sum wide_edition n x 0 (coefficient wide_edition c)) hx ∙ first_rows R c)
    (es ∙ sums-second y q c (c + 2) Q (omega arith) few
    ∙ ap (λ n. group_sum wide_edition n y 0 (λ j. raised wide_edition (coefficient wide_edition c j) 256)) hy ∙ second-rows R c)

pub returns : goal.returns
returns c =
    let a = c.args in
    let R = c.fold_groups.ensures in
    let g = c.requires.good_in in
    let few : a.c + 2 ≤ 6 = omega (arith, g.few-checks) in
    from-rows a.m a.w a.c a.word.now _ _ c.power_sums-p.result c.power_sums-q.result _ _ g.narrow R.horner_rows R.x_len.0 R.x_len.1
    (c.power_sums-p.ensures.power_sums (omega (arith, R.x_len.0, g.narrow)) few) (c.power_sums-q.ensures.power_sums (omega (arith, R.x_len.1, g.narrow)) few)
    c.weighted-first.ensures c.weighted-second.ensures
