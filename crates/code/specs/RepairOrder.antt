-- Demand 3: group repairs first, in any order, repeated and refused ones included, do not change what a recovery answers.
use Rattle.std.specs.Prelude.{◌≡◌, Bool, true, false, cond, List, [], ◌∷◌, ℕ, ◌*◌, ◌<◌, ◌≤◌, ltb, length, replicate}
use Rattle.code.specs.Edition.{Edition, Sound}
use Rattle.code.specs.Word.{Symbols}
use Rattle.code.specs.Marks.{excess}
use Rattle.code.specs.Outcome.{SameEnd}
use Rattle.code.specs.Recovery.{recovered}
use Rattle.code.specs.Repair.{repaired_group}

-- What the caller holds: a word and its marks.
pub record Held : Type 0 where
  pub word : List ℕ
  pub marks : List ℕ

-- what one repair leaves; a group number from m on is refused 7 and leaves all as it was
unfoldable pub after_repair : Edition → ℕ → ℕ → ℕ → ℕ → Held → Held
after_repair E m w c g h =
    cond (ltb g m) (record { word = (repaired_group E w c g h.word h.marks).word; marks = (repaired_group E w c g h.word h.marks).marks }) h

-- what a list of repairs leaves, the first first
unfoldable pub after_repairs : Edition → ℕ → ℕ → ℕ → List ℕ → Held → Held
after_repairs E m w c [] h = h
after_repairs E m w c (g ∷ gs) h = after_repairs E m w c gs (after_repair E m w c g h)

module _ (E : Edition) (S : Sound E) (m w c : ℕ) (few : m ≤ S.r) (wide : 0 < w) (narrow : w ≤ E.small) where
  -- what is held fits the shape
  pub record Fits (h : Held) : Type 0 where
    pub symbols : Symbols E (m * w) h.word
    pub size : length h.marks ≡ m * w

  -- The recovery after a list of repairs and the recovery at once.
  pub record SameRecovery (gs : List ℕ) (h : Held) : Type 0 where
    -- the same number, the same group and, where the number is 0, the same n bytes and the same marks
    pub same : SameEnd (recovered E m w c (after_repairs E m w c gs h).word (after_repairs E m w c gs h).marks) (recovered E m w c h.word h.marks)
    -- the number is 8 exactly when the excess of the start's marks is above two
    pub eight : (recovered E m w c (after_repairs E m w c gs h).word (after_repairs E m w c gs h).marks).number ≡ 8 → 2 < excess m w c h.marks
    pub above : 2 < excess m w c h.marks → (recovered E m w c (after_repairs E m w c gs h).word (after_repairs E m w c gs h).marks).number ≡ 8
    -- where it is 0 all marks are clear
    pub clear : (recovered E m w c (after_repairs E m w c gs h).word (after_repairs E m w c gs h).marks).number ≡ 0
        → (recovered E m w c (after_repairs E m w c gs h).word (after_repairs E m w c gs h).marks).marks ≡ replicate (m * w) 0
