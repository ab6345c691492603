-- Looking for the lowest broken group of a word in which the groups with c or more lost places are satisfied.
use Rattle.std.specs.Prelude.{List, ℕ, ◌≤◌, ◌<◌, T}
use Rattle.code.specs.Edition.{Edition}
use Rattle.code.specs.Lent.{LentIn}
use Rattle.code.specs.Word.{is_local}
use Rattle.code_services.specs.Attempt.{FullSatisfiedIn}

-- the groups before g satisfy their own equations
pub record Unbroken (E : Edition) (m w c : ℕ) (marks word : List ℕ) (g : ℕ) : Type 0 where
  pub marks-lent : LentIn E.limits m w c marks
  pub word-lent : LentIn E.limits m w c word
  pub full : FullSatisfiedIn E m w c marks word
  pub passed : g ≤ m
  pub sound : (k : ℕ) → k < g → T (is_local E w c word k)
