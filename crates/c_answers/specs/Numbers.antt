-- What Check gives to C: a number, 0 for yes, and the group that a 9 carries; 0 with any other number.
use Rattle.std.specs.Prelude.{ℕ, Option, Some, None, Result, Ok, Err}
use Rattle.answers.specs.declared.Refusal.{Refusal}
use Rattle.answers.specs.Answers.{refusal_number, refusal_group}
use Rattle.c_answers.specs.declared.Mended.{Mended}

-- Check: 0 for yes; 9 with its group for no, since then no codeword agrees with the symbols, which are all present; else the refusal
abbrev pub checked_mended : Result (Option ℕ) Refusal → Mended
checked_mended (Ok None) = record { number = 0; group = 0 }
checked_mended (Ok (Some group)) = record { number = 9; group = group }
checked_mended (Err e) = record { number = refusal_number e; group = refusal_group e }
