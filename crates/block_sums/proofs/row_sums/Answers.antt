use Rattle.std.proofs.Common.{◌≡◌, refl, sym, ap, ◌∙◌, List, ℕ, suc, ◌+◌, ◌-◌, get_or, arith}
use Rattle.block_tables.specs.StoreLaws.{rows-begin, zeros-at}
use Rattle.binary_field.specs.Product.{double}
use Rattle.block_tables.specs.TurnsLaws.{turn-taken, turns-none}
use Rattle.block_tables.specs.Table.{turns}
use Rattle.block_sums.proofs.row_sums.Goals as goal

pub loop-init : goal.loop-init
loop-init c =
    let a = c.args in
    (refl, λ i h. ap (turns a.t.now i 8 a.a a.b a.c a.d) (zeros-at 96 i))

pub loop-preserved : goal.loop-preserved
loop-preserved c =
    let l = c.loop in
    let t : List ℕ = c.args.t.now in
    let e = c.step.ensures in
    let m : 8 - l.counter ≡ suc (8 - (l.counter + 1)) = omega arith in (
      e.long ∙ l.invariant.0,
      λ i h.
          turn-taken t i (8 - (l.counter + 1)) l.p l.q l.u l.v (get_or l.r i 0) _
          (e.here i h
          ∙ rows-begin t (double 8 285 (get_or l.r i 0)) i c.row_start.ensures.0 c.row_start-in-loop.ensures.0
          c.row_start-in-loop-2.ensures.0 c.row_start-in-loop-3.ensures.0)
          ∙ ap (λ k. turns t i k l.p l.q l.u l.v (get_or l.r i 0)) (sym m) ∙ l.invariant.1 i h,
    )

pub returns : goal.returns
returns c =
    let l = c.loop in
    let e : 8 - l.counter ≡ 0 = omega arith in
    λ i h.
    sym (turns-none c.args.t.now i 0 l.p l.q l.u l.v (get_or l.r i 0) 0)
    ∙ ap (λ k. turns c.args.t.now i k l.p l.q l.u l.v (get_or l.r i 0)) (sym e) ∙ l.invariant.1 i h
