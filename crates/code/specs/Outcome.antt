-- The rule that recovery and the repair of a group share: 8 where the loss is too large; else 9, with a group number, where no filling of the
-- lost places passes the test; else the filling is written and the marks are cleared.
use Rattle.std.specs.Prelude.{◌≡◌, Bool, true, false, cond, List, ℕ, length, replicate}
use Rattle.code.specs.Filling.{Found, found, none, search, Passing}

-- A number given back, 0 for done, with what word and marks hold then. "A 9 now carries a group number"; with any other number group is 0.
pub record Outcome : Type 0 where
  pub number : ℕ
  pub group : ℕ
  pub word : List ℕ
  pub marks : List ℕ

-- "On every refusal all lent buffers [..] stay as they were."
abbrev pub refused : ℕ → List ℕ → List ℕ → Outcome
refused r word marks = record { number = r; group = 0; word = word; marks = marks }

-- 9, with the group that contradicts
abbrev pub contradictory : ℕ → List ℕ → List ℕ → Outcome
contradictory group word marks = record { number = 9; group = group; word = word; marks = marks }

-- x is written, and the marks are cleared
abbrev pub done_with : List ℕ → List ℕ → Outcome
done_with x marks = record { number = 0; group = 0; word = x; marks = replicate (length marks) 0 }

-- what is answered where the loss is not too large: the filling, or 9 with the group
abbrev pub finished : ℕ → List ℕ → List ℕ → Found → Outcome
finished group word marks (found x) = done_with x marks
finished group word marks none = contradictory group word marks

-- with symbols below q: 8 if the loss is too large, 9 with the group if no filling passes the test, else the filling
unfoldable pub answered : ℕ → (List ℕ → Bool) → Bool → ℕ → List ℕ → List ℕ → Outcome
answered q test large group word marks = cond large (refused 8 word marks) (finished group word marks (search q test marks word))

-- Two outcomes have the same number, the same group and, where the number is 0, the same word and marks.
pub record SameEnd (a b : Outcome) : Type 0 where
  pub number : a.number ≡ b.number
  pub group : a.group ≡ b.group
  pub word : a.number ≡ 0 → a.word ≡ b.word
  pub marks : a.number ≡ 0 → a.marks ≡ b.marks

module _ (q : ℕ) (test : List ℕ → Bool) (large : Bool) (group : ℕ) (word marks : List ℕ) where
  -- the three cases
  pub data Case : Type 0 where
    eight : large ≡ true → answered q test large group word marks ≡ refused 8 word marks → Case
    nine : large ≡ false → ((y : List ℕ) → Passing q test marks word y → ⊥) → answered q test large group word marks ≡ contradictory group word marks → Case
    done : large ≡ false → (x : List ℕ) → Passing q test marks word x → answered q test large group word marks ≡ done_with x marks → Case

  -- the single filling that passes stands in the word, and the marks are clear
  pub record Single : Type 0 where
    pub small : large ≡ false
    pub passes : Passing q test marks word (answered q test large group word marks).word
    pub only : (y : List ℕ) → Passing q test marks word y → y ≡ (answered q test large group word marks).word
    pub clear : (answered q test large group word marks).marks ≡ replicate (length marks) 0
