use Rattle.std.proofs.Common.{◌≡◌, refl, ◌∙◌, ℕ, zero, suc, ◌≤◌, ◌<◌, arith, length, get_or, replicate}
use Rattle.wide_shape.specs.Edition.{wide_edition}
use Rattle.code_engine.specs.FilledLaws.{filled-by}
use Rattle.wide_solve.specs.Column.{column_of}
use Rattle.wide_solve.specs.ColumnLaws.{column-at}
use Rattle.wide_solve.specs.OneLaws.{filled-one}
use Rattle.wide_solve.specs.SolvedLaws.{locators-differ, solved-by}
use Rattle.wide_solve.proofs.fill.Goals as goal

zeros : (i : ℕ) → get_or {A = ℕ} (replicate 4 0) i 0 ≡ 0
zeros zero = refl
zeros (suc zero) = refl
zeros (suc (suc zero)) = refl
zeros (suc (suc (suc zero))) = refl
zeros (suc (suc (suc (suc i)))) = refl

pub returns-then-t-eq1 : goal.returns-then-t-eq1
returns-then-t-eq1 c =
    filled-one c.find-erasures.result.count c.if-t-eq1.true c.find-erasures.ensures.all (c.find-erasures.ensures.few (omega arith)) (omega arith) (omega arith)
    (λ j. (c.slice_known-then-t-eq1-1.given j).fits) c.fill_one.ensures

pub returns : goal.returns
returns c =
    let a = c.args in
    let t : ℕ = c.find-erasures.result.count in
    let few : t ≤ 4 = c.if-t-gt-MAX_CHECKS.false in
    let w : length a.marks.now ≡ length a.part.now = omega arith in
    let P = rw w at (c.find-erasures.ensures.few few) in
    let inside : (i : ℕ) → i < t → get_or c.find-erasures.result.at i 0 < 256 = λ i l. let b = P.inside i l in omega arith in
    let own = c.locators_of-x.ensures in
    let apart = locators-differ c.find-erasures.result.at c.locators_of-x.result t few inside P.ascending own in
    filled-by a.marks.now a.part.now c.place.new.part c.place-2.new.part c.find-erasures.result.at _ (column_of c.symbols-u.result) t P
    c.place.ensures c.place-2.ensures wide_edition (λ i. column-at _ i ∙ zeros i) (omega arith)
    (solved-by c.find-erasures.result.at c.locators_of-x.result t few inside P.ascending own c.place.new.part c.symbols-u.result c.power_sums-sums.result
    (c.power_sums-sums.ensures.power_sums (omega arith) (omega arith)) (c.symbols-u.ensures.has_sums few apart))
    w few (rw w at c.find-erasures.ensures.all)
