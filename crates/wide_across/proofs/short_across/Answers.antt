use Rattle.std.proofs.Common.{◌≡◌, ap, ap₂, ◌∙◌, List, ℕ, length}
use Rattle.code.specs.Edition.{raised}
use Rattle.code.specs.Word.{group_sum, coefficient}
use Rattle.code_engine.specs.Horner.{HornerRows}
use Rattle.code_engine.specs.HornerLaws.{first_rows, second-rows}
use Rattle.wide_shape.specs.Edition.{wide_edition}
use Rattle.wide_across.specs.declared.Sums.{Sums}
use Rattle.wide_across.specs.Across.{wide_across}
use Rattle.wide_across.proofs.short_across.Goals as goal

-- the sums of the two rows are those across
from-rows : (m w c : ℕ) (word x y : List ℕ) (r : Sums) → HornerRows wide_edition w word 0 m x y → length x ≡ w
    → r.first ≡ group_sum wide_edition (length x) x 0 (coefficient wide_edition c)
    → r.second ≡ group_sum wide_edition (length x) y 0 (λ j. raised wide_edition (coefficient wide_edition c j) 256) → r ≡ wide_across m w c word
from-rows m w c word x y r R hx ef es =
    ap₂ (λ a b. record { first = a; second = b })
    (ef ∙ ap (λ n. group_sum wide_edition n x 0 (coefficient wide_edition c)) hx ∙ first_rows R c)
    (es ∙ ap (λ n. group_sum wide_edition n y 0 (λ j. raised wide_edition (coefficient wide_edition c j) 256)) hx ∙ second-rows R c)

pub returns : goal.returns
returns c =
    let a = c.args in
    let F = c.fold_groups.ensures in
    let E = c.paired_sums.ensures in
    from-rows a.m a.w a.c a.word.now _ _ c.paired_sums.result F.horner_rows F.x_len.0 E.first_value E.second_value
