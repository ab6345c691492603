-- A whole run: from the bytes of the input to the bytes of the output.
use Rattle.std.specs.Prelude.{true, List, ◌++◌, ℕ, zero, suc, ◌-◌, length, drop, take, Result, Ok, Err}
use Rattle.text.specs.Lines.{refused_line}
use Rattle.text_lines.specs.WordLine.{contradictory_word_line}
use Rattle.code.specs.Refusals.{unless_refused}
use Rattle.answers.specs.Answers.{refusal_number}
use Rattle.block_rebuild.specs.declared.Failure.{Failure}
use Rattle.block_rebuild.specs.Rebuild.{RebuildOutcome, rebuild_of, outcome_rebuilt}
use Rattle.block_input.specs.declared.InputFailure.{InputFailure}
use Rattle.block_input.specs.Head.{head_refusal, input_shape, input_marks, input_length, input_blocks}

-- "writes only them, mended, or one refused line"
abbrev pub rebuilt_output : Result Unit Failure → List ℕ → List ℕ
rebuilt_output (Ok done) blocks = blocks
rebuilt_output (Err (Failure.Contradictory x group)) blocks = contradictory_word_line x group
rebuilt_output (Err (Failure.Refused e)) blocks = refused_line (refusal_number e)

-- what a rebuild of the blocks of an input gives
unfoldable pub input_outcome : List ℕ → RebuildOutcome
input_outcome input =
    rebuild_of (input_shape input).m (input_shape input).w (input_shape input).c (input_length input) (input_blocks input) (input_marks input)

-- an output, unless a refusal comes before it
abbrev pub output_unless : ℕ → List ℕ → List ℕ
output_unless zero output = output
output_unless (suc r) output = refused_line (suc r)

-- "With a program that reads 01's shape line, a line marks with n fields, a line length with L, then the blocks [..], and writes only them,
-- mended, or one refused line". "the first refusal ends the run"
unfoldable pub output_of : List ℕ → List ℕ
output_of input = output_unless (head_refusal true input) (rebuilt_output (outcome_rebuilt (input_outcome input)) (input_outcome input).blocks)

-- ---- how the code says it
-- where the blocks of an input start
abbrev pub start_of : List ℕ → ℕ
start_of input = length input - length (input_blocks input)

-- the verdict of a rebuild whose blocks start there
abbrev pub rebuilt_verdict : ℕ → Result Unit Failure → Result ℕ InputFailure
rebuilt_verdict start (Ok done) = Ok start
rebuilt_verdict start (Err failure) = Err (InputFailure.Blocks failure)

-- a verdict, unless a refusal comes before it
abbrev pub verdict_unless : ℕ → Result ℕ InputFailure → Result ℕ InputFailure
verdict_unless zero v = v
verdict_unless (suc r) v = Err (InputFailure.Line (suc r))

-- the verdict on a whole input
unfoldable pub verdict_of : List ℕ → Result ℕ InputFailure
verdict_of input = verdict_unless (head_refusal true input) (rebuilt_verdict (start_of input) (outcome_rebuilt (input_outcome input)))

-- what the buffer of the input holds then: its lines as they were, and the blocks as the rebuild leaves them
unfoldable pub held_of : List ℕ → List ℕ
held_of input = unless_refused (head_refusal true input) (take (start_of input) input ++ (input_outcome input).blocks) input

-- what is written by a verdict and such a buffer
abbrev pub verdict_output : Result ℕ InputFailure → List ℕ → List ℕ
verdict_output (Ok start) held = drop start held
verdict_output (Err (InputFailure.Line r)) held = refused_line r
verdict_output (Err (InputFailure.Blocks failure)) held = rebuilt_output (Err failure) held
