-- A run of the program: however the input is cut into parts, what is written is the output of the whole input.
use Rattle.std.specs.Prelude.{◌≡◌, false, List, [], ◌∷◌, ◌++◌, ℕ, suc, ◌≤◌, length, take}
use Rattle.text.specs.Lines.{refused_line}
use Rattle.block_input.specs.Head.{head_refusal}
use Rattle.block_input.specs.Output.{verdict_of, held_of, verdict_output}

-- three lines of 1,024 bytes with their line feeds, 65,536 bytes of blocks, and one byte more
abbrev pub room : ℕ
room = 68612

-- the whole input: the bytes that have come, and the parts after them
unfoldable pub together : List ℕ → List (List ℕ) → List ℕ
together came [] = came
together came (part ∷ parts) = together (came ++ part) parts

-- what is written by the verdict on some bytes, taken for the whole input
abbrev pub output_for : List ℕ → List ℕ
output_for input = verdict_output (verdict_of input) (held_of input)

-- The bytes that have come, the parts that come then, and all that is written. The premises are the contracts of refusal_so_far and answer;
-- the contract of the program's `run_all` says that it writes all this, where the bytes of its input and output are known.
pub data RebuildRun : List ℕ → List (List ℕ) → List ℕ → Type 0 where
  -- the end of the input
  ended : (came : List ℕ) → RebuildRun came [] (output_for came)
  -- the buffer is full: what comes after it is not read
  full : (came : List ℕ) (parts : List (List ℕ)) → room ≤ length came → RebuildRun came parts (output_for (take room came))
  -- "the first refusal ends the run"
  refused : (came : List ℕ) (parts : List (List ℕ)) (r : ℕ) → head_refusal false came ≡ suc r → RebuildRun came parts (refused_line (suc r))
  more : (came part : List ℕ) (parts : List (List ℕ)) (output : List ℕ) → RebuildRun (came ++ part) parts output → RebuildRun came (part ∷ parts) output
