use Rattle.std.proofs.Common.{arith, length-take}
use borrow.Author.Tests.{not-true, not-false}
use Rattle.wide_shape.specs.Edition.{wide_edition}
use Rattle.wide_shape.specs.EditionLaws.{wide-sound}
use Rattle.code_loops.specs.RecoverLaws.{Attempted, attempted, satisfied, same-length-of, one-group, attempt-fails, attempt-succeeds}
use Rattle.wide_recover.proofs.attempt.Goals as goal

-- what was made in found is the candidate
pub test-tested-requires-clause-full_satisfied_in : goal.test-tested-requires-clause-full_satisfied_in
test-tested-requires-clause-full_satisfied_in c =
    let A : Attempted wide_edition c.args.m c.args.w c.args.c c.args.marks.now c.args.word.now c.candidate-s.new.out =
    attempted c.requires.good_in c.requires.word_len (λ i. (c.slice_known-1.given i).fits) c.requires.marks_len
    (c.candidate-s.ensures.candidate_in c.requires.good_in c.requires.word_len c.requires.marks_len c.requires.found_len) in
    satisfied A wide-sound

pub returns-then-not-tested : goal.returns-then-not-tested
returns-then-not-tested c =
    let A : Attempted wide_edition c.args.m c.args.w c.args.c c.args.marks.now c.args.word.now c.candidate-s.new.out =
    attempted c.requires.good_in c.requires.word_len (λ i. (c.slice_known-1.given i).fits) c.requires.marks_len
    (c.candidate-s.ensures.candidate_in c.requires.good_in c.requires.word_len c.requires.marks_len c.requires.found_len) in
    attempt-fails A (λ p. (c.slice_known-3-1.given p).fits) c.test-tested.ensures (not-true _ c.if-not-tested.true)

pub returns : goal.returns
returns c =
    let A : Attempted wide_edition c.args.m c.args.w c.args.c c.args.marks.now c.args.word.now c.candidate-s.new.out =
    attempted c.requires.good_in c.requires.word_len (λ i. (c.slice_known-1.given i).fits) c.requires.marks_len
    (c.candidate-s.ensures.candidate_in c.requires.good_in c.requires.word_len c.requires.marks_len c.requires.found_len) in
    attempt-succeeds A (λ p. (c.slice_known-3-1.given p).fits) c.test-tested.ensures (not-false _ c.if-not-tested.false)
    (c.copy.ensures.to_after (simp length-take (omega (arith, same-length-of A, one-group A))))
