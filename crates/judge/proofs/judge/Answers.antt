use Rattle.std.proofs.Common.{sym}
use Rattle.answers.specs.AnswersLaws.{passed}
use Rattle.code_loops.specs.JudgeLaws.{judge-refused, judge-eight, judge-determined}
use Rattle.judge.proofs.judge.Goals as goal

pub returns-in_err-marks_refusal : goal.returns-in_err-marks_refusal
returns-in_err-marks_refusal g c =
    let p = judge-refused g.E.Edition.limits _ _ _ _ c.in_err-marks_refusal.ensures in
    rw (passed c.from_residual.ensures) record { answer = p.0; number = p.1 }

pub returns-then-pattern_excess-gt2 : goal.returns-then-pattern_excess-gt2
returns-then-pattern_excess-gt2 g c =
    let p = judge-eight g.E.Edition.limits _ _ _ _ (sym c.in_ok-marks_refusal.ensures) c.pattern_excess.ensures c.if-pattern_excess-gt2.true in
    record { answer = p.0; number = p.1 }

pub returns : goal.returns
returns g c =
    let p = judge-determined g.E.Edition.limits _ _ _ _ (sym c.in_ok-marks_refusal.ensures) c.pattern_excess.ensures c.if-pattern_excess-gt2.false in
    record { answer = p.0; number = p.1 }
