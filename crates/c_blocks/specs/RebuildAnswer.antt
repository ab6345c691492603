-- What a block rebuild gives to C: a number, 0 for done, and the group and the word that a 9 carries; 0 with any other number.
use Rattle.std.specs.Prelude.{Result, Ok, Err}
use Rattle.answers.specs.Answers.{refusal_number}
use Rattle.block_rebuild.specs.declared.Failure.{Failure}
use Rattle.block_rebuild.specs.Rebuild.{RebuildOutcome}
use Rattle.c_blocks.specs.declared.RebuildAnswer.{RebuildAnswer}

-- "The answer on contradiction carries the lowest such x and request 4's group for it": as an outcome has them
abbrev pub outcome_answer : RebuildOutcome → RebuildAnswer
outcome_answer o = record { word = o.word; number = o.number; group = o.group }

-- and as they are read off an answer
abbrev pub rebuilt_answer : Result Unit Failure → RebuildAnswer
rebuilt_answer (Ok done) = record { word = 0; number = 0; group = 0 }
rebuilt_answer (Err (Failure.Contradictory x group)) = record { word = x; number = 9; group = group }
rebuilt_answer (Err (Failure.Refused e)) = record { word = 0; number = refusal_number e; group = 0 }
