use Rattle.std.proofs.Common.{refl}
use Rattle.byte_edition.specs.Edition.{byte_edition}
use Rattle.byte_edition.specs.EditionLaws.{bytes-sound}
use Rattle.code_services.specs.AttemptLaws.{accepted}
use Rattle.code_loops.specs.RecoverLaws.{recover-refused, recover-eight, low-excess}
use Rattle.answers.specs.AnswersLaws.{passed}
use Rattle.recover.proofs.recover.Goals as goal

pub returns-in_err-refusal : goal.returns-in_err-refusal
returns-in_err-refusal c =
    let q = recover-refused byte_edition _ _ _ _ _ c.in_err-refusal.ensures in
    rw (passed c.from_residual.ensures) record { answer = q.0; word = q.1.0; marks = q.1.1 }

pub returns-then-pattern_excess-gt2 : goal.returns-then-pattern_excess-gt2
returns-then-pattern_excess-gt2 c =
    let q = recover-eight bytes-sound (accepted _ _ _ _ _ 0 c.in_ok-refusal.ensures refl) (λ p. (c.slice_known-1.given p).fits)
    c.pattern_excess.ensures c.if-pattern_excess-gt2.true in
    record { answer = q.0; word = q.1.0; marks = q.1.1 }

pub recover_determined-requires : goal.recover_determined-requires
recover_determined-requires c =
    let A = accepted _ _ _ _ _ 0 c.in_ok-refusal.ensures refl in
    record { marks_value = A.refusal; marks_bound = low-excess A c.pattern_excess.ensures c.if-pattern_excess-gt2.false }
