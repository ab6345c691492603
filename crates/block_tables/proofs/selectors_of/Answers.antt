use Rattle.std.proofs.Common.{mul-le-mul, ◌≡◌, refl, ap, ◌∙◌, List, ℕ, ◌+◌, ◌*◌, ◌≤◌, length, arith}
use Rattle.code.specs.LentLaws.{stretch-lent}
use Rattle.block_tables.specs.StoreLaws.{zeros-at, row-end, lent-long, lent_at, back_long, back-here, back_below, back_above}
use native.Mathlib.Decide.{ℕ_discrete}
use Rattle.block_tables.specs.Table.{selector_at}
use Rattle.block_tables.proofs.selectors_of.Goals as goal

pub loop-r-init : goal.loop-r-init
loop-r-init c = (refl, (λ k s l. absurd (omega arith)), λ j l. zeros-at 240 j)

pub overflow_add-a : goal.overflow_add-a
overflow_add-a c =
    let f = row-end c.loop-r.r c.args.rows c.args.count _ (omega arith) (mul-le-mul c.requires.1 c.requires.0) in
    omega arith

pub overflow_mul-a : goal.overflow_mul-a
overflow_mul-a c =
    let f = row-end c.loop-r.r c.args.rows c.args.count _ (omega arith) (mul-le-mul c.requires.1 c.requires.0) in
    omega arith

pub slice_bounds-row_selectors-end : goal.slice_bounds-row_selectors-end
slice_bounds-row_selectors-end c =
    let e = row-end c.loop-r.r c.args.rows c.args.count _ (omega arith) c.requires.2 in
    omega arith

pub row_selectors-requires : goal.row_selectors-requires
row_selectors-requires c =
    let x : List ℕ = c.loop-r.found in
    let e = row-end c.loop-r.r c.args.rows c.args.count _ (omega arith) c.requires.2 in
    let l = lent-long c.args.count c.loop-r.r c.args.constants.now e in
    let k = lent-long 60 c.loop-r.r x (omega arith) in record { k_len_bound = (omega arith, k); by_index = λ j h. lent_at 60 c.loop-r.r x (omega arith) j h ∙ c.loop-r.invariant.2 (c.loop-r.r * 60 + j) (omega arith) }

pub loop-r-preserved : goal.loop-r-preserved
loop-r-preserved c =
    let l = c.loop-r in
    let a = c.args in
    let x : List ℕ = l.found in
    let part : List ℕ = c.row_selectors.new.found in
    let fit : l.r * 60 + 60 ≤ length x = omega arith in
    let k = lent-long 60 l.r x fit in
    let size : length part ≡ 60 = omega arith in
    let m = c.row_selectors.ensures in (
      back_long 60 l.r x fit part size ∙ l.invariant.0,
      (λ k j h b. elim (ℕ_discrete k l.r) [
        | yes e ↦ (rw e (back-here 60 l.r x fit part size j b ∙ m j b ∙ ap (λ q. selector_at q j) (stretch-lent a.count l.r a.constants.now)))
        | no e ↦ back_below 60 l.r x fit part size (k * 60 + j) (omega arith) ∙ l.invariant.1 k j (omega arith) b
      ]),
      λ j h. back_above 60 l.r x fit part size j (omega arith) ∙ l.invariant.2 j (omega arith),
    )

pub returns : goal.returns
returns c =
    let l = c.loop-r in record { each = λ r s h b. l.invariant.1 r s (omega arith) b }
