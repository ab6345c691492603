-- Demand 2 of Repair as it runs: "One group's repair obeys the same rule over its own equations", and touches nothing outside its group. It is
-- stated of repair_in, whose number, group, word and marks the contract of repair::repair gives, in the edition of bytes.
use Rattle.std.specs.Prelude.{◌≡◌, ◌↔◌, ◌⊎◌, List, ℕ, suc, ◌*◌, ◌<◌, ◌≤◌, length, get_or, replicate}
use Rattle.code.specs.Edition.{Edition}
use Rattle.code.specs.Marks.{lost_in}
use Rattle.code.specs.Outcome.{Outcome}
use Rattle.code.specs.Stretch.{stretch}
use Rattle.code.specs.OneGroup.{LocallyAgrees, LocallyUndetermined}
use Rattle.code_services.specs.Repair.{repair_in}

-- a place before or after the stretch of group g
abbrev pub Outside : ℕ → ℕ → ℕ → Type 0
Outside w g p = (p < g * w) ⊎ (suc g * w ≤ p)

module _ (E : Edition) (m w c g : ℕ) (word marks : List ℕ) where
  -- the number given back, and the word and the marks at the end of the call
  abbrev pub repair_end : Outcome
  repair_end = repair_in E m w c g word marks

  -- a stretch that meets the group's own equations and agrees with the group's present bytes
  abbrev pub OwnAgrees : List ℕ → Type 0
  OwnAgrees y = LocallyAgrees E w c (stretch w g marks) (stretch w g word) y

  -- two different stretches that meet the group's own equations agree at its present places
  abbrev pub OwnUndetermined : Type 0
  OwnUndetermined = LocallyUndetermined E w c (stretch w g marks)

  -- what demand 2 says of a call that is not refused 1 to 7 or 26
  pub record RepairDemandTwo : Type 0 where
    -- 8 exactly when two different such stretches agree, and that is "exactly if more than c of its places are lost"
    pub eight : (repair_end.number ≡ 8) ↔ OwnUndetermined
    pub many : (repair_end.number ≡ 8) ↔ (c < lost_in w marks g)
    -- else 9 exactly when none agrees with the group's present bytes
    pub nine : (repair_end.number ≡ 9) ↔ ((¬ OwnUndetermined) × ((y : List ℕ) → OwnAgrees y → ⊥))
    -- "Repair gives its own group"; another number carries none
    pub group : repair_end.number ≡ 9 → repair_end.group ≡ g
    pub no-group : ¬ (repair_end.number ≡ 9) → repair_end.group ≡ 0
    -- else done
    pub done : (repair_end.number ≡ 0) ↔ ((¬ OwnUndetermined) × ((y : List ℕ) × OwnAgrees y))
    -- the group's stretch is one that agrees, and no other agrees
    pub agrees : repair_end.number ≡ 0 → OwnAgrees (stretch w g repair_end.word)
    pub only : repair_end.number ≡ 0 → (y : List ℕ) → OwnAgrees y → y ≡ stretch w g repair_end.word
    -- "that group's marks are cleared"
    pub clear : repair_end.number ≡ 0 → stretch w g repair_end.marks ≡ replicate w 0
    -- "without touching any byte outside it", nor any mark
    pub word_size : length repair_end.word ≡ m * w
    pub word-outside : (p : ℕ) → Outside w g p → get_or repair_end.word p 0 ≡ get_or word p 0
    pub marks-size : length repair_end.marks ≡ m * w
    pub marks-outside : (p : ℕ) → Outside w g p → get_or repair_end.marks p 0 ≡ get_or marks p 0
    -- on 8 and 9 word and marks stay as they were
    pub word_kept : ¬ (repair_end.number ≡ 0) → repair_end.word ≡ word
    pub marks-kept : ¬ (repair_end.number ≡ 0) → repair_end.marks ≡ marks

-- Two repairs of group g with the same marks end alike: the same number and group and, where the number is 0, the same stretch and marks.
pub record SameRepair (E : Edition) (m w c g : ℕ) (word₁ word₂ marks : List ℕ) : Type 0 where
  pub number_same : (repair_end E m w c g word₁ marks).number ≡ (repair_end E m w c g word₂ marks).number
  pub group-same : (repair_end E m w c g word₁ marks).group ≡ (repair_end E m w c g word₂ marks).group
  pub part_same : (repair_end E m w c g word₁ marks).number ≡ 0
      → stretch w g (repair_end E m w c g word₁ marks).word ≡ stretch w g (repair_end E m w c g word₂ marks).word
  pub marks-same : (repair_end E m w c g word₁ marks).number ≡ 0 → (repair_end E m w c g word₁ marks).marks ≡ (repair_end E m w c g word₂ marks).marks
