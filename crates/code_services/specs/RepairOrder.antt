-- Demand 3 of the services as they run, in any edition: calls of Repair first, in any order, repeated and refused ones included, do not
-- change what a call of Recover answers.
use Rattle.std.specs.Prelude.{◌≡◌, ◌↔◌, List, [], ◌∷◌, ℕ, ◌*◌, ◌<◌, replicate}
use Rattle.code_services.specs.Marks.{MarkedIn}
use Rattle.code.specs.Edition.{Edition}
use Rattle.code.specs.Word.{Symbols}
use Rattle.code.specs.Marks.{excess}
use Rattle.code.specs.Outcome.{Outcome, SameEnd}
use Rattle.code.specs.RepairOrder.{Held}
use Rattle.code_services.specs.Recover.{recover_in}
use Rattle.code_services.specs.Repair.{repair_in}

-- a word and its marks
abbrev pub held : List ℕ → List ℕ → Held
held word marks = record { word = word; marks = marks }

-- what word and marks hold at the end of a call
abbrev pub left_by : Outcome → Held
left_by o = held o.word o.marks

-- "Repair group g": what one call leaves of word and marks, whatever it answers
unfoldable pub held_after : Edition → ℕ → ℕ → ℕ → ℕ → Held → Held
held_after E m w c g h = left_by (repair_in E m w c g h.word h.marks)

-- what a list of such calls leaves, the first first
unfoldable pub held_after_list : Edition → ℕ → ℕ → ℕ → List ℕ → Held → Held
held_after_list E m w c [] h = h
held_after_list E m w c (g ∷ gs) h = held_after_list E m w c gs (held_after E m w c g h)

-- "Recover": what a call answers and leaves of what is held
abbrev pub recover_held : Edition → ℕ → ℕ → ℕ → Held → Outcome
recover_held E m w c h = recover_in E m w c h.word h.marks

-- the recovery after the repairs of a list
abbrev pub recover_after : Edition → ℕ → ℕ → ℕ → List ℕ → List ℕ → List ℕ → Outcome
recover_after E m w c list word marks = recover_held E m w c (held_after_list E m w c list (held word marks))

-- ---- calls that are accepted
-- a good shape, n bytes and n marks, each 0 or 1
pub record Ready (E : Edition) (m w c : ℕ) (h : Held) : Type 0 where
  pub symbols : Symbols E (m * w) h.word
  pub marked : MarkedIn E.limits m w c h.marks

-- "Group repairs first, in any order, repeated and refused ones included, do not change what a recovery answers": the recovery after the
-- calls of the list gives the number and the group of the recovery at once, 8 exactly when the excess of the start's marks is above two and, where it is
-- done, the same n bytes with all marks clear.
pub record OrderHolds (E : Edition) (m w c : ℕ) (list word marks : List ℕ) : Type 0 where
  pub same : SameEnd (recover_after E m w c list word marks) (recover_in E m w c word marks)
  pub eight : ((recover_after E m w c list word marks).number ≡ 8) ↔ (2 < excess m w c marks)
  pub clear : (recover_after E m w c list word marks).number ≡ 0 → (recover_after E m w c list word marks).marks ≡ replicate (m * w) 0
