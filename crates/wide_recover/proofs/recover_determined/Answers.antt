use Rattle.std.proofs.Common.{refl, sym, arith}
use Rattle.wide_shape.specs.EditionLaws.{wide-sound}
use Rattle.code_services.specs.AttemptLaws.{accepted}
use Rattle.code_loops.specs.RecoverLaws.{recover-nine, recover-done, named-most}
use Rattle.wide_recover.proofs.recover_determined.Goals as goal

pub attempt_apart-tested-requires : goal.attempt_apart-tested-requires
attempt_apart-tested-requires c =
    let A = accepted c.args.m c.args.w c.args.c c.args.word.now c.args.marks.now 0 (sym c.requires.marks_value) refl in
    record { good_in = A.good; word_len = A.word_size; marks_len = A.marks-size }

pub overflow_cast-result : goal.overflow_cast-result
overflow_cast-result c =
    omega (
      arith,
      named-most c.attempt_apart-tested.ensures,
      (accepted c.args.m c.args.w c.args.c c.args.word.now c.args.marks.now 0 (sym c.requires.marks_value) refl).good.few,
    )

pub returns-then-not-done : goal.returns-then-not-done
returns-then-not-done c =
    let n = c.if-not-done.true in
    let q = recover-nine wide-sound
    (accepted c.args.m c.args.w c.args.c c.args.word.now c.args.marks.now 0 (sym c.requires.marks_value) refl) (λ p. (c.slice_known-1.given p).fits) c.requires.marks_bound
    c.attempt_apart-tested.ensures n (c.clear_if.ensures.buffer_unchanged n) in
    record { answer = q.0; word = q.1.0; marks = q.1.1.0; never_eight = q.1.1.1 }

pub returns : goal.returns
returns c =
    let y = c.if-not-done.false in
    let q = recover-done wide-sound
    (accepted c.args.m c.args.w c.args.c c.args.word.now c.args.marks.now 0 (sym c.requires.marks_value) refl) (λ p. (c.slice_known-1.given p).fits) c.requires.marks_bound
    c.attempt_apart-tested.ensures y (c.clear_if.ensures.buffer_after y) in
    record { answer = q.0; word = q.1.0; marks = q.1.1.0; never_eight = q.1.1.1 }
