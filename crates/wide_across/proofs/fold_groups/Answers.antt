use Rattle.std.proofs.Common.{◌≡◌, refl, sym, ap, ◌∙◌, subst, List, ℕ, suc, ◌+◌, ◌-◌, ◌*◌, ◌<◌, arith, get_or, take, drop, replicate}
use lib.ListN.{get_or-replicate}
use Rattle.binary_field.specs.Xor.{◌⊕◌}
use Rattle.binary_field.specs.Product.{double}
use Rattle.code.specs.LentLaws.{part-stretch, part_length}
use Rattle.code.specs.StretchLaws.{stretch-at}
use Rattle.wide_shape.specs.Edition.{wide_edition}
use Rattle.wide_shape.specs.EditionLaws.{wide-sound}
use Rattle.code_engine.specs.Horner.{HornerRows}
use Rattle.code_engine.specs.HornerLaws.{rows_none, rows_more}
use Rattle.wide_across.proofs.fold_groups.Goals as goal

counted : (w : ℕ) (word : List ℕ) (g : ℕ) {n k : ℕ} {x y : List ℕ} → n ≡ k → HornerRows wide_edition w word g k x y → HornerRows wide_edition w word g n x y
counted w word g {x = x} {y = y} e = subst (λ i. HornerRows wide_edition w word g i x y) (sym e)

zeros : (w : ℕ) {x : List ℕ} → x ≡ replicate w 0 → (j : ℕ) → j < w → get_or x j 0 ≡ 0
zeros w e j l = ap (λ x. get_or x j 0) e ∙ get_or-replicate w j 0 0 l

pub loop-g-init : goal.loop-g-init
loop-g-init c =
    let a = c.args in
    let none : a.m - a.m ≡ 0 = omega arith in (
      record { good = c.requires.good_in; size = c.requires.word_len },
      subst (λ k. HornerRows wide_edition a.w a.word.now a.m k a.x.now a.y.now) (sym none)
          (rows_none wide-sound a.w a.word.now a.m a.x.now a.y.now (zeros a.w c.requires.x_value.0) (zeros a.w c.requires.x_value.1)),
    )

pub loop-g-preserved : goal.loop-g-preserved
loop-g-preserved c =
    let a = c.args in
    let L = c.loop-g.invariant.0 in
    let g : ℕ = c.loop-g.g - 1 in
    let l : g < a.m = omega arith in
    let h : c.loop-g.g ≡ suc g = omega arith in
    let k : a.m - g ≡ suc (a.m - c.loop-g.g) = omega arith in
    let n = part_length L g l refl in
    let at : (j : ℕ) → j < a.w → get_or (take (g * a.w + a.w - g * a.w) (drop (g * a.w) a.word.now)) j 0 ≡ get_or a.word.now (g * a.w + j) 0 =
    λ j b. ap (λ p. get_or p j 0) (part-stretch L g l refl) ∙ stretch-at a.w g a.word.now j b in (
      L,
      counted a.w a.word.now g k
          (rows_more wide-sound a.w a.word.now
          (subst (λ i. HornerRows wide_edition a.w a.word.now i (a.m - c.loop-g.g) c.loop-g.x c.loop-g.y) h c.loop-g.invariant.1)
          (λ p. (c.shared_slice_known-1.given p).fits)
          (λ j b. c.fold.ensures.plus.each j (subst (λ k. j < k) (sym n) b) ∙ ap (λ v. get_or c.loop-g.x j 0 ⊕ v) (at j b))
          (λ j b. c.fold.ensures.twice_plus.each j (subst (λ k. j < k) (sym n) b) ∙ ap (λ v. double 16 69643 (get_or c.loop-g.y j 0) ⊕ v) (at j b))),
    )
