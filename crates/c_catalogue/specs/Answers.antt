-- What Lookup, Put, Remove and Compact give to C: the number, 0 for done, and the figures; 0 on a refusal.
use Rattle.std.specs.Prelude.{List, ℕ, get_or}
use Rattle.c_catalogue.specs.declared.LookupAnswer.{LookupAnswer}
use Rattle.c_catalogue.specs.declared.ChangeAnswer.{ChangeAnswer}
use Rattle.c_catalogue.specs.declared.CompactAnswer.{CompactAnswer}

-- revision and shape
abbrev pub lookup_answer : ℕ → List ℕ → LookupAnswer
lookup_answer r figures =
    record { number = r; m = get_or figures 1 0; w = get_or figures 2 0; c = get_or figures 3 0; revision = get_or figures 0 0 }

-- the new text's length and the name's revision
abbrev pub change_answer : ℕ → List ℕ → ChangeAnswer
change_answer r figures = record { number = r; revision = get_or figures 1 0; size = get_or figures 0 0 }

-- the text's length
abbrev pub compact_answer : ℕ → List ℕ → CompactAnswer
compact_answer r figures = record { number = r; size = get_or figures 0 0 }
