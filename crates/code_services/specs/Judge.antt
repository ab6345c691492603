-- What Judge answers.
use Rattle.std.specs.Prelude.{List, ℕ, ltb, Result}
use Rattle.code.specs.Refusals.{refuse, ◌or_else◌}
use Rattle.code.specs.Marks.{excess}
use Rattle.code.specs.Limits.{Limits}
use Rattle.code_services.specs.Marks.{marks_refusal_in}
use Rattle.answers.specs.declared.Refusal.{Refusal}
use Rattle.answers.specs.Figures.{judged_at}

-- 8: undetermined, which is an excess above two; after 1 to 6 and 26
unfoldable pub judged_number_in : Limits → ℕ → ℕ → ℕ → List ℕ → ℕ
judged_number_in L m w c marks = marks_refusal_in L m w c marks or_else refuse 8 (ltb 2 (excess m w c marks))

-- of any call
unfoldable pub judged_in : Limits → ℕ → ℕ → ℕ → List ℕ → Result Unit Refusal
judged_in L m w c marks = judged_at (judged_number_in L m w c marks)
