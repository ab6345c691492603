use Rattle.std.proofs.Common.{◌≡◌, ap, ◌∙◌, subst, List, ℕ, suc, ◌+◌, ◌-◌, ◌*◌, ◌<◌, ◌≤◌, arith, length, get_or, take, drop, replicate, length-drop, get_or-drop, take_all}
use Rattle.binary_field.specs.Xor.{◌⊕◌}
use Rattle.binary_field.specs.Product.{double}
use Rattle.code.specs.LentLaws.{end_fits}
use Rattle.byte_edition.specs.Edition.{byte_edition}
use Rattle.byte_edition.specs.EditionLaws.{bytes-sound}
use Rattle.code_engine.specs.ListsLaws.{zeros-row}
use Rattle.code_engine.specs.Horner.{HornerRows, AddedRows}
use Rattle.code_engine.specs.HornerLaws.{rows_none, rows_more}
use Rattle.syndrome.proofs.rows_of.Goals as goal

-- what stands from place a on
from_place : (word : List ℕ) (a j : ℕ) → get_or (take (length word - a) (drop a word)) j 0 ≡ get_or word (a + j) 0
from_place word a j =
    let l : length (drop a word) ≤ length word - a = omega (arith, length-drop a word) in
    ap (λ xs. get_or xs j 0) (take_all (length word - a) (drop a word) l) ∙ get_or-drop a word j 0

-- the group before g added
step : (w : ℕ) (word x y x' y' : List ℕ) (m g : ℕ) → 0 < g → g ≤ m → w ≤ 16 → ((p : ℕ) → get_or word p 0 < 256) → HornerRows byte_edition w word g (m - g) x y
    → AddedRows (take (length word - (g - 1) * w) (drop ((g - 1) * w) word)) x y x' y' → HornerRows byte_edition w word (g - 1) (m - (g - 1)) x' y'
step w word x y x' y' m g l h narrow small R A =
    let e : g ≡ suc (g - 1) = omega arith in
    let d : suc (m - g) ≡ m - (g - 1) = omega arith in
    subst (λ n. HornerRows byte_edition w word (g - 1) n x' y') d
    (rows_more bytes-sound w word (subst (λ k. HornerRows byte_edition w word k (m - g) x y) e R) small
    (λ j k. A.each-plain j (omega arith) ∙ ap (λ b. get_or x j 0 ⊕ b) (from_place word ((g - 1) * w) j))
    (λ j k. A.each-weighted j (omega arith) ∙ ap (λ b. double 8 285 (get_or y j 0) ⊕ b) (from_place word ((g - 1) * w) j)))

pub loop-g-init : goal.loop-g-init
loop-g-init c =
    let a = c.args in
    let e : 0 ≡ a.m - a.m = omega arith in (
      record { good = c.requires.good_in; size = c.requires.word_len },
      subst (λ n. HornerRows byte_edition a.w a.word.now a.m n (replicate 16 0) (replicate 16 0)) e
          (rows_none bytes-sound a.w a.word.now a.m (replicate 16 0) (replicate 16 0) (λ j _. zeros-row 16 j) (λ j _. zeros-row 16 j)),
    )

pub overflow_mul-a : goal.overflow_mul-a
overflow_mul-a c =
    omega (arith, end_fits c.loop-g.invariant.0 (c.loop-g.g - 1) (omega arith))

pub slice_bounds-add_part-count : goal.slice_bounds-add_part-count
slice_bounds-add_part-count c =
    omega (arith, end_fits c.loop-g.invariant.0 (c.loop-g.g - 1) (omega arith))

pub slice_bounds-add_part-start : goal.slice_bounds-add_part-start
slice_bounds-add_part-start c =
    omega (arith, end_fits c.loop-g.invariant.0 (c.loop-g.g - 1) (omega arith))

pub slice_bounds-add_part-end : goal.slice_bounds-add_part-end
slice_bounds-add_part-end c =
    omega (arith, end_fits c.loop-g.invariant.0 (c.loop-g.g - 1) (omega arith))

pub loop-g-preserved : goal.loop-g-preserved
loop-g-preserved c =
    let a = c.args in
    let L = c.loop-g.invariant.0 in (
      L,
      step a.w a.word.now _ _ _ _ a.m c.loop-g.g (omega arith) (omega arith) L.good.narrow (λ i. let f = c.type_inv.word i in omega arith)
          c.loop-g.invariant.1 c.add_part-r.ensures,
    )

pub returns : goal.returns
returns c =
    let a = c.args in
    let z : c.loop-g.g ≡ 0 = omega arith in
    let d : a.m - 0 ≡ a.m = omega arith in
    subst (λ n. HornerRows byte_edition a.w a.word.now 0 n c.loop-g.plain c.loop-g.weighted) d (rw z at c.loop-g.invariant.1)
