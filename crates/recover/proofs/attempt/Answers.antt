use Rattle.std.proofs.Common.{arith, length-take}
use borrow.Author.Tests.{not-true, not-false}
use Rattle.byte_edition.specs.Edition.{byte_edition}
use Rattle.byte_edition.specs.EditionLaws.{bytes-sound}
use Rattle.code_loops.specs.RecoverLaws.{Attempted, attempted, satisfied, same-length-of, one-group, attempt-fails, attempt-succeeds}
use Rattle.recover.proofs.attempt.Goals as goal

-- what was made in found is the candidate
pub test-tested-requires : goal.test-tested-requires
test-tested-requires c =
    let p = c.requires in
    let A : Attempted byte_edition c.args.m c.args.w c.args.c c.args.marks.now c.args.word.now c.candidate-s.new.out =
    attempted c.requires.good_in c.requires.word_len (λ i. (c.slice_known-1.given i).fits) c.requires.marks_len
    (c.candidate-s.ensures.candidate_in c.requires.good_in c.requires.word_len c.requires.marks_len c.requires.found_len) in
    record {
      good_in = p.good_in;
      marks_len = p.marks_len;
      word_len = A.candidate.size;
      full_satisfied_in = satisfied A bytes-sound;
      s_value = c.candidate-s.ensures.value p.good_in p.word_len p.marks_len p.found_len;
    }

pub returns-then-not-tested : goal.returns-then-not-tested
returns-then-not-tested c =
    let A : Attempted byte_edition c.args.m c.args.w c.args.c c.args.marks.now c.args.word.now c.candidate-s.new.out =
    attempted c.requires.good_in c.requires.word_len (λ i. (c.slice_known-1.given i).fits) c.requires.marks_len
    (c.candidate-s.ensures.candidate_in c.requires.good_in c.requires.word_len c.requires.marks_len c.requires.found_len) in
    attempt-fails A (λ p. (c.slice_known-3-1.given p).fits) c.test-tested.ensures (not-true _ c.if-not-tested.true)

-- the places of the word, and of one group
pub returns : goal.returns
returns c =
    let A : Attempted byte_edition c.args.m c.args.w c.args.c c.args.marks.now c.args.word.now c.candidate-s.new.out =
    attempted c.requires.good_in c.requires.word_len (λ i. (c.slice_known-1.given i).fits) c.requires.marks_len
    (c.candidate-s.ensures.candidate_in c.requires.good_in c.requires.word_len c.requires.marks_len c.requires.found_len) in
    attempt-succeeds A (λ p. (c.slice_known-3-1.given p).fits) c.test-tested.ensures (not-false _ c.if-not-tested.false)
    (c.copy.ensures.to_after (simp length-take (omega (arith, same-length-of A, one-group A))))
