-- What the service Recover answers, and what word and marks hold then.
use Rattle.std.specs.Prelude.{List, ℕ, zero, suc, length}
use Rattle.code.specs.Refusals.{◌or_else◌}
use Rattle.code.specs.Limits.{Limits, word_refusal_in}
use Rattle.code_services.specs.Marks.{marks_refusal_in}
use Rattle.code.specs.Edition.{Edition}
use Rattle.code.specs.Outcome.{Outcome, refused}
use Rattle.code.specs.Recovery.{recovered}

-- an outcome, unless a refusal comes before it: then word and marks stay as they were
abbrev pub unless_before : ℕ → Outcome → List ℕ → List ℕ → Outcome
unless_before zero o word marks = o
unless_before (suc r) o word marks = refused (suc r) word marks

-- 1 to 6 and 26: the shape, the lengths of word and marks, the marks
unfoldable pub recover_refusal_in : Limits → ℕ → ℕ → ℕ → List ℕ → List ℕ → ℕ
recover_refusal_in L m w c word marks = word_refusal_in L m w c (length word) or_else marks_refusal_in L m w c marks

-- then 8, 9 with the group that contradicts, or the codeword
unfoldable pub recover_in : Edition → ℕ → ℕ → ℕ → List ℕ → List ℕ → Outcome
recover_in E m w c word marks = unless_before (recover_refusal_in E.limits m w c word marks) (recovered E m w c word marks) word marks
