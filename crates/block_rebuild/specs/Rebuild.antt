-- Request 9, block rebuild: what it answers, and what blocks and marks hold then.
use Rattle.std.specs.Prelude.{cond, not, ◌||◌, List, ℕ, zero, suc, ◌*◌, eqb, ltb, length, replicate, Result, Ok, Err}
use Rattle.counting.specs.First.{first_below}
use Rattle.code.specs.Refusals.{refuse, ◌or_else◌}
use Rattle.shape.specs.Shapes.{byte_limits}
use Rattle.code.specs.Outcome.{Outcome}
use Rattle.code.specs.Limits.{place_count}
use Rattle.byte_edition.specs.Edition.{byte_edition}
use Rattle.code_services.specs.Marks.{marks_refusal_in}
use Rattle.code_services.specs.Judge.{judged_number_in}
use Rattle.code_services.specs.Recover.{recover_in}
use Rattle.answers.specs.Answers.{refusal_number, refusal_at}
use Rattle.block_rebuild.specs.declared.Failure.{Failure}
use Rattle.block_rebuild.specs.Columns.{block_word, blocks_of}

-- 27: "length is not n·L with those bounds": the bytes lent are not n·L, L is 0 or n·L above 65,536
unfoldable pub blocks_refusal : ℕ → ℕ → ℕ → ℕ
blocks_refusal n size lent = refuse 27 (not (eqb lent (n * size)) || eqb size 0 || ltb 65536 (n * size))

-- "Refusals, after 1 to 6 with 5 for marks alone: 27 [..], then 8", as Judge gives it
unfoldable pub rebuild_refusal : ℕ → ℕ → ℕ → ℕ → ℕ → List ℕ → ℕ
rebuild_refusal m w c size lent marks = marks_refusal_in byte_limits m w c marks or_else blocks_refusal (place_count m w) size lent
    or_else judged_number_in byte_limits m w c marks

-- A number given back, 0 for done, the word and the group that a 9 carries, and what blocks and marks hold then.
pub record RebuildOutcome : Type 0 where
  pub number : ℕ
  pub word : ℕ
  pub group : ℕ
  pub blocks : List ℕ
  pub marks : List ℕ

-- a refusal "changes nothing"
abbrev pub refused_rebuild : ℕ → List ℕ → List ℕ → RebuildOutcome
refused_rebuild r blocks marks = record { number = r; word = 0; group = 0; blocks = blocks; marks = marks }

-- 9, with the word and its group; it changes nothing either
abbrev pub contradictory_rebuild : ℕ → ℕ → List ℕ → List ℕ → RebuildOutcome
contradictory_rebuild x group blocks marks = record { number = 9; word = x; group = group; blocks = blocks; marks = marks }

-- the blocks are written and the marks are cleared
abbrev pub done_rebuild : List ℕ → List ℕ → RebuildOutcome
done_rebuild blocks marks = record { number = 0; word = 0; group = 0; blocks = blocks; marks = replicate (length marks) 0 }

-- an outcome, unless a refusal comes before it
abbrev pub rebuild_unless : ℕ → RebuildOutcome → List ℕ → List ℕ → RebuildOutcome
rebuild_unless zero o blocks marks = o
rebuild_unless (suc r) o blocks marks = refused_rebuild (suc r) blocks marks

module _ (m w c size : ℕ) (blocks marks : List ℕ) where
  -- what Recover gives for word x
  unfoldable pub word_outcome : ℕ → Outcome
  word_outcome x = recover_in byte_edition m w c (block_word (place_count m w) size blocks x) marks

  -- the lowest x whose word gets 9; L where none does
  unfoldable pub contradicting_word : ℕ
  contradicting_word = first_below size (λ x. eqb (word_outcome x).number 9)

  -- every word as Recover leaves it
  unfoldable pub rebuilt_blocks : List ℕ
  rebuilt_blocks = blocks_of (place_count m w) size (λ x. (word_outcome x).word)

  -- "recovers all words and clears the marks, or changes nothing. The answer on contradiction carries the lowest such x and request 4's
  -- group for it."
  abbrev pub words_outcome : RebuildOutcome
  words_outcome =
      cond (ltb contradicting_word size) (contradictory_rebuild contradicting_word (word_outcome contradicting_word).group blocks marks)
      (done_rebuild rebuilt_blocks marks)

  -- "One call with a shape and one set of marks"
  unfoldable pub rebuild_of : RebuildOutcome
  rebuild_of = rebuild_unless (rebuild_refusal m w c size (length blocks) marks) words_outcome blocks marks

-- the answer with its figures, by the number, the word and the group
abbrev pub rebuilt_at : ℕ → ℕ → ℕ → Result Unit Failure
rebuilt_at zero x group = Ok tt
rebuilt_at (suc r) x group = cond (eqb (suc r) 9) (Err (Failure.Contradictory x group)) (Err (Failure.Refused (refusal_at (suc r) 0)))

-- the number given back, 0 for done
abbrev pub rebuilt_number : Result Unit Failure → ℕ
rebuilt_number (Ok done) = 0
rebuilt_number (Err (Failure.Contradictory x group)) = 9
rebuilt_number (Err (Failure.Refused e)) = refusal_number e

-- the word that a 9 carries; 0 with any other number
abbrev pub rebuilt_word : Result Unit Failure → ℕ
rebuilt_word (Ok done) = 0
rebuilt_word (Err (Failure.Contradictory x group)) = x
rebuilt_word (Err (Failure.Refused e)) = 0

-- the group that a 9 carries; 0 with any other number
abbrev pub rebuilt_group : Result Unit Failure → ℕ
rebuilt_group (Ok done) = 0
rebuilt_group (Err (Failure.Contradictory x group)) = group
rebuilt_group (Err (Failure.Refused e)) = 0

-- the answer of an outcome
abbrev pub outcome_rebuilt : RebuildOutcome → Result Unit Failure
outcome_rebuilt o = rebuilt_at o.number o.word o.group
