-- What the service Repair answers, and what word and marks hold then; and why a filling by the first equations is the only one that can
-- satisfy them all.
use Rattle.std.specs.Prelude.{◌≡◌, Bool, true, false, not, List, ℕ, ltb}
use Rattle.code.specs.Refusals.{refuse, ◌or_else◌}
use Rattle.code.specs.Limits.{Limits}
use Rattle.code_services.specs.Recover.{unless_before, recover_refusal_in}
use Rattle.code.specs.Edition.{Edition}
use Rattle.code.specs.Outcome.{Outcome}
use Rattle.code.specs.Repair.{repaired_group, Satisfies}

-- 1 to 7 and 26: the shape, the lengths of word and marks, the marks, the group number
unfoldable pub repair_refusal_in : Limits → ℕ → ℕ → ℕ → ℕ → List ℕ → List ℕ → ℕ
repair_refusal_in L m w c g word marks = recover_refusal_in L m w c word marks or_else refuse 7 (not (ltb g m))

-- then 8, 9 with its own group, or the filling
unfoldable pub repair_in : Edition → ℕ → ℕ → ℕ → ℕ → List ℕ → List ℕ → Outcome
repair_in E m w c g word marks = unless_before (repair_refusal_in E.limits m w c g word marks) (repaired_group E w c g word marks) word marks

-- where an attempt on a stretch succeeds the filling is written; else nothing is, and no filling satisfies the group's equations
pub record PartAttemptIn (E : Edition) (w c : ℕ) (marks before after : List ℕ) (ok : Bool) : Type 0 where
  pub done : ok ≡ true → Satisfies E w c marks before after
  pub failed : ok ≡ false → (after ≡ before) × ((y : List ℕ) → Satisfies E w c marks before y → ⊥)
