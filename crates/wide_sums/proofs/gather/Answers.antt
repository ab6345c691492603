use Rattle.std.proofs.Common.{◌≡◌, refl, sym, ◌∙◌, subst, List, ℕ, suc, ◌+◌, ◌-◌, arith, lit<, length, replicate, length-set}
use Rattle.code.specs.Word.{local_sum}
use Rattle.buffers.proofs.Laws.{passed-set}
use Rattle.wide_shape.specs.Edition.{wide_edition}
use Rattle.wide_sums.specs.PowerSums.{Raised}
use Rattle.wide_sums.specs.PowerSumsLaws.{raised-none, raised-next, raised-sum}
use Rattle.wide_sums.proofs.gather.Goals as goal

pub loop-e-init : goal.loop-e-init
loop-e-init c =
    let x : List ℕ = c.args.x.now in
    let R : Raised 0 x x = raised-none x (λ p. (c.slice_known-1.given p).fits) in (
      refl,
      R,
      passed-set (λ k. local_sum wide_edition (length x) x 0 k) (replicate 6 0) 0 _ (lit< tt) (c.sum.ensures ∙ raised-sum R)
          (λ k l. absurd (omega arith)),
    )

pub loop-e-preserved : goal.loop-e-preserved
loop-e-preserved c =
    let x : List ℕ = c.args.x.now in
    let e : ℕ = c.loop-e.e in
    let y : List ℕ = c.multiply.new.x in
    let q : suc (e - 1) ≡ e = omega arith in
    let R : Raised e x y = subst (λ n. Raised n x y) q (raised-next c.loop-e.invariant.1 c.requires.row
    (c.multiply.ensures.each_times (c.requires.row_len ∙ sym c.loop-e.invariant.1.size))) in
    let z : e + 1 - 1 ≡ e = omega arith in (
      simp length-set c.loop-e.invariant.0,
      subst (λ n. Raised n x y) (sym z) R,
      passed-set (λ k. local_sum wide_edition (length x) x 0 k) c.loop-e.sums e _ (omega arith) (c.sum-in-loop-e.ensures ∙ raised-sum R) c.loop-e.invariant.2,
    )
