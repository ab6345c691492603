-- An attempt with the candidate: it is the codeword that agrees, or none does.
use Rattle.std.specs.Prelude.{◌≡◌, true, false, List, ℕ, ◌*◌, ◌≤◌, ◌<◌, T, length}
use Rattle.code.specs.Edition.{Edition}
use Rattle.code.specs.Word.{is_local}
use Rattle.code.specs.Marks.{lost_in, excess}
use Rattle.code.specs.Contradiction.{contradicting_group}
use Rattle.code.specs.Recovery.{Agrees}
use Rattle.code.specs.Limits.{Limits, GoodIn}
use Rattle.answers.specs.declared.Tested.{Tested}
use Rattle.code_services.specs.Recover.{recover_refusal_in}

-- in a word every group that has lost c places or more satisfies its own equations
abbrev pub FullSatisfiedIn : Edition → ℕ → ℕ → ℕ → List ℕ → List ℕ → Type 0
FullSatisfiedIn E m w c marks word = (g : ℕ) → g < m → c ≤ lost_in w marks g → T (is_local E w c word g)

-- where it succeeds the codeword that agrees is written; else nothing is, the contradicting group is named, and for an excess of at most two
-- no codeword agrees
pub record AttemptIn (E : Edition) (m w c : ℕ) (marks before after : List ℕ) (tested : Tested) : Type 0 where
  pub done : tested.codeword ≡ true → Agrees E m w c marks before after
  pub failed : tested.codeword ≡ false → (after ≡ before) × (excess m w c marks ≤ 2 → (y : List ℕ) → Agrees E m w c marks before y → ⊥)
  pub group : tested.group ≡ contradicting_group E m w c before marks

-- a call that is not refused by its shape, lengths or marks
pub record AcceptedIn (L : Limits) (m w c : ℕ) (word marks : List ℕ) : Type 0 where
  pub refusal : recover_refusal_in L m w c word marks ≡ 0
  pub good : GoodIn L m w c
  pub word_size : length word ≡ m * w
  pub marks-size : length marks ≡ m * w
