use Rattle.std.proofs.Common.{◌≡◌, sym, ◌∙◌, true≢false, List, ℕ, below_more, get_or}
use Rattle.erasures.proofs.all_bound.Goals as goal
use Rattle.erasures.proofs.all_bound.Goals.{then-marks-i, else-marks-i}

pub loop-i-preserved : goal.loop-i-preserved
loop-i-preserved c =
    let m : List ℕ = c.args.marks.now in
    let k : List ℕ = c.args.bound.now in
    let l = c.loop-i in
    elim c.if-marks-i.branch [
      | then-marks-i w ↦ (λ e. absurd (true≢false (sym e ∙ w.same-is)))
      | else-marks-i w ↦ (λ e. below_more (λ p. get_or m p 0 ≡ get_or k p 0) l.i (l.invariant (sym w.same-is ∙ e)) w.if-marks-i.false)
    ]
