use Rattle.std.proofs.Common.{◌≡◌, sym, ◌∙◌, ℕ, ◌≤◌, min, arith, length, w8}
use Rattle.byte_edition.specs.Edition.{byte_edition}
use Rattle.byte_edition.specs.EditionLaws.{bytes-sound}
use Rattle.code_engine.proofs.Arrays.{array-system}
use Rattle.code_engine.specs.FilledLaws.{unchanged, zeros-at, filled}
use Rattle.fill.proofs.Laws.{filled-one}
use Rattle.fill.proofs.fill.Goals as goal

pub returns-then-t-gt4 : goal.returns-then-t-gt4
returns-then-t-gt4 c = let f = c.find-erasures in unchanged byte_edition _ _ f.result.count f.ensures.all c.if-t-gt4.true

pub returns-then-t-eq1 : goal.returns-then-t-eq1
returns-then-t-eq1 c =
    let a = c.args in
    let one : c.find-erasures.result.count ≡ 1 = omega arith in
    let w : length a.marks.now ≡ length a.part.now = omega arith in
    rw c.fill_one.ensures
    (filled-one a.marks.now a.part.now c.find-erasures.result.at (rw w at (rw one at (c.find-erasures.ensures.few (omega arith))))
    (λ i. (c.slice_known-1.given i).fits) (omega arith) w (rw w at (sym one ∙ c.find-erasures.ensures.all)))

pub returns : goal.returns
returns c =
    let a = c.args in
    let t : ℕ = c.find-erasures.result.count in
    let few : t ≤ 4 = omega (arith, c.if-t-gt4.false) in
    let m : min t 4 ≡ t = omega (arith, few) in
    let w : length a.marks.now ≡ length a.part.now = omega arith in
    filled a.marks.now a.part.now c.place.new.part c.place-2.new.part c.find-erasures.result.at _ c.eliminate-solution.result t
    (rw w at (c.find-erasures.ensures.few (omega arith))) c.place.ensures c.place-2.ensures byte_edition bytes-sound (λ i. zeros-at 4 16 i 4) (omega arith)
    c.equations-rows.result (array-system w8 16 4 c.equations-rows.result _ c.equations-rows.type_inv t (omega arith)) c.equations-rows.ensures
    (rw m at c.eliminate-solution.ensures)
    w (omega arith) (rw w at c.find-erasures.ensures.all)
