-- What Repair, Recover and Serve give to C: a number, 0 for done, and the group that a 9 carries; 0 with any other number.
use Rattle.std.specs.Prelude.{Result}
use Rattle.answers.specs.declared.Refusal.{Refusal}
use Rattle.answers.specs.Answers.{mending_number, mending_group}
use Rattle.code.specs.Outcome.{Outcome}
use Rattle.c_answers.specs.declared.Mended.{Mended}

-- "A 9 now carries a group number": both as an outcome has them
abbrev pub outcome_mended : Outcome → Mended
outcome_mended o = record { number = o.number; group = o.group }

-- and as they are read off an answer
abbrev pub mending_mended : Result Unit Refusal → Mended
mending_mended answer = record { number = mending_number answer; group = mending_group answer }
