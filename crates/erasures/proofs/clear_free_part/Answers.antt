use Rattle.std.proofs.Common.{◌≡◌, ◌∙◌, ◌-◌, ap, arith, length, length-set}
use Rattle.std.proofs.lemmas.List.{set-get_or}
use Rattle.erasures.proofs.Laws.{pass_step, clear-free-step, clear_step, bound-end}
use Rattle.erasures.proofs.clear_free_part.Goals as goal
use Rattle.erasures.proofs.clear_free_part.Goals.{then-mark-eq1+then-bound-c, then-mark-eq1+else-bound-c, else-mark-eq1}

pub loop-mark-preserved : goal.loop-mark-preserved
loop-mark-preserved c =
    let a = c.args in
    let d = c.loop-mark.part in
    let i = c.loop-mark.mark-index in
    let k = c.loop-mark.bound in
    let h = c.loop-mark.invariant.2 in
    elim c.if-mark-eq1.branch [
      | then-mark-eq1+then-bound-c w ↦ (let p : c.if-mark-eq1.part ≡ d = w.part-is ∙ set-get_or d i 0 in
          (omega (arith, ap length p), omega arith, rw (p, w.bound-is) (clear-free-step d i (omega arith) a.c k w.if-mark-eq1.true w.if-bound-c.true ∙ h)))
      | then-mark-eq1+else-bound-c w ↦ (
        omega (arith, ap length w.part-is, length-set d i 0),
        omega arith,
        rw (w.part-is, w.bound-is) (clear_step d i (omega arith) a.c k w.if-mark-eq1.true w.if-bound-c.false ∙ h),
      )
      | else-mark-eq1 w ↦ (let p : c.if-mark-eq1.part ≡ d = w.part-is ∙ set-get_or d i 0 in
          (omega (arith, ap length p), omega arith, rw (p, w.bound-is) (pass_step d i (omega arith) (a.c - k) w.if-mark-eq1.false ∙ h)))
    ]

pub returns : goal.returns
returns c = cc (bound-end c.loop-mark.part c.loop-mark.mark-index (c.args.c - c.loop-mark.bound) (omega arith))
