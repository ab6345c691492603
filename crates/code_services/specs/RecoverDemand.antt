-- Demand 2 of Recover as it runs: "Recovery is refused as undetermined exactly when two different codewords agree at every present place, else
-- as contradictory exactly when no codeword agrees with the present bytes, else the single agreeing codeword stands in the word"; and the
-- group that a 9 carries. It is stated of recover_in, whose number, group, word and marks the contract of recover::recover gives, in the edition of
-- bytes.
use Rattle.std.specs.Prelude.{◌≡◌, ◌↔◌, List, ℕ, ◌*◌, ◌<◌, ◌≤◌, replicate}
use Rattle.code.specs.Edition.{Edition}
use Rattle.code.specs.Marks.{lost_in}
use Rattle.code.specs.Outcome.{Outcome}
use Rattle.code.specs.OneGroup.{LocallyAgrees}
use Rattle.code.specs.Stretch.{stretch}
use Rattle.code.specs.Determined.{Undetermined}
use Rattle.code.specs.Recovery.{Agrees}
use Rattle.code_services.specs.Recover.{recover_in}

module _ (E : Edition) (m w c : ℕ) (word marks : List ℕ) where
  -- no filling of the lost places of group i meets its own equations
  abbrev pub Broken : ℕ → Type 0
  Broken i = (y : List ℕ) → LocallyAgrees E w c (stretch w i marks) (stretch w i word) y → ⊥

  -- g is "the lowest group whose present bytes no filling can satisfy locally, or m if each group is sound and only the equations across fail"
  pub record Named (g : ℕ) : Type 0 where
    pub most : g ≤ m
    pub broken : g < m → Broken g
    pub lower : (i : ℕ) → i < g → (y : List ℕ) × LocallyAgrees E w c (stretch w i marks) (stretch w i word) y
    -- a group with c or more lost places is never named: it can always be filled
    pub few : g < m → lost_in w marks g < c

  -- the number given back, and the word and the marks at the end of the call
  abbrev pub recover_end : Outcome
  recover_end = recover_in E m w c word marks

  -- what demand 2 says of a call that is not refused 1 to 6 or 26
  pub record RecoverDemandTwo : Type 0 where
    -- 8 exactly when two different codewords agree at every present place
    pub eight : (recover_end.number ≡ 8) ↔ Undetermined E m w c marks
    -- else 9 exactly when no codeword agrees with the present bytes
    pub nine : (recover_end.number ≡ 9) ↔ ((¬ Undetermined E m w c marks) × ((y : List ℕ) → Agrees E m w c marks word y → ⊥))
    -- "A 9 now carries a group number"; another number carries none
    pub group : recover_end.number ≡ 9 → Named recover_end.group
    pub no-group : ¬ (recover_end.number ≡ 9) → recover_end.group ≡ 0
    -- else done
    pub done : (recover_end.number ≡ 0) ↔ ((¬ Undetermined E m w c marks) × ((y : List ℕ) × Agrees E m w c marks word y))
    -- the word holds a codeword that agrees, and no other agrees
    pub agrees : recover_end.number ≡ 0 → Agrees E m w c marks word recover_end.word
    pub only : recover_end.number ≡ 0 → (y : List ℕ) → Agrees E m w c marks word y → y ≡ recover_end.word
    -- all marks are cleared
    pub clear : recover_end.number ≡ 0 → recover_end.marks ≡ replicate (m * w) 0
    -- on 8 and 9 word and marks stay as they were
    pub word_kept : ¬ (recover_end.number ≡ 0) → recover_end.word ≡ word
    pub marks-kept : ¬ (recover_end.number ≡ 0) → recover_end.marks ≡ marks
