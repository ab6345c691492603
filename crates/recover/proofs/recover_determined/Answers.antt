use Rattle.std.proofs.Common.{refl, sym, arith, length-take}
use Rattle.code.specs.LimitsLaws.{places-most}
use Rattle.byte_edition.specs.EditionLaws.{bytes-sound}
use Rattle.code_services.specs.AttemptLaws.{accepted}
use Rattle.code_loops.specs.RecoverLaws.{recover-nine, recover-done, named-most}
use Rattle.recover.proofs.recover_determined.Goals as goal

pub slice_bounds-found-end : goal.slice_bounds-found-end
slice_bounds-found-end c =
    let A = accepted c.args.m c.args.w c.args.c c.args.word.now c.args.marks.now 0 (sym c.requires.marks_value) refl in
    rw A.word_size (places-most A.good)

pub slice_bounds-attempt-end : goal.slice_bounds-attempt-end
slice_bounds-attempt-end c =
    let A = accepted c.args.m c.args.w c.args.c c.args.word.now c.args.marks.now 0 (sym c.requires.marks_value) refl in
    let e = A.word_size in
    let l = places-most A.good in
    simp length-take (omega arith)

pub attempt-tested-requires : goal.attempt-tested-requires
attempt-tested-requires c =
    let A = accepted c.args.m c.args.w c.args.c c.args.word.now c.args.marks.now 0 (sym c.requires.marks_value) refl in
    record { good_in = A.good; word_len = A.word_size; marks_len = A.marks-size; found_len = let e = A.word_size in let l = places-most A.good in simp length-take (omega arith) }

pub overflow_cast-result : goal.overflow_cast-result
overflow_cast-result c =
    omega (arith, named-most c.attempt-tested.ensures, (accepted c.args.m c.args.w c.args.c c.args.word.now c.args.marks.now 0 (sym c.requires.marks_value) refl).good.few)

pub returns-then-not-done : goal.returns-then-not-done
returns-then-not-done c =
    let n = c.if-not-done.true in
    let q = recover-nine bytes-sound (accepted c.args.m c.args.w c.args.c c.args.word.now c.args.marks.now 0 (sym c.requires.marks_value) refl) (λ p. (c.slice_known-1.given p).fits) c.requires.marks_bound
    c.attempt-tested.ensures n (c.clear_if.ensures.buffer_unchanged n) in
    record { answer = q.0; word = q.1.0; marks = q.1.1.0; never_eight = q.1.1.1 }

pub returns : goal.returns
returns c =
    let y = c.if-not-done.false in
    let q = recover-done bytes-sound (accepted c.args.m c.args.w c.args.c c.args.word.now c.args.marks.now 0 (sym c.requires.marks_value) refl) (λ p. (c.slice_known-1.given p).fits) c.requires.marks_bound
    c.attempt-tested.ensures y (c.clear_if.ensures.buffer_after y) in
    record { answer = q.0; word = q.1.0; marks = q.1.1.0; never_eight = q.1.1.1 }
