-- What elimination keeps: that entries are small, where a linear function of the rows is 0, and the columns that are done.
use Rattle.std.specs.Prelude.{◌≡◌, cond, List, ℕ, ◌≤◌, ◌<◌, eqb, length}
use Rattle.code_engine.specs.Elimination.{row, entry}
use Rattle.code_engine.specs.EliminationRows.{Small}

-- every row below t
abbrev pub Every : (List ℕ → Type 0) → List (List ℕ) → ℕ → Type 0
Every Q M t = (e : ℕ) → e < t → Q (row M e)

-- t rows, and numbers of k digits in them
pub record System (k : ℕ) (M : List (List ℕ)) (t : ℕ) : Type 0 where
  pub long : t ≤ length M
  pub small : Every (Small k) M t

-- the identity matrix
abbrev pub identity : ℕ → ℕ → ℕ
identity e c = cond (eqb e c) 1 0

-- the columns below n are those of the identity
abbrev pub Reduced : List (List ℕ) → ℕ → ℕ → Type 0
Reduced M n t = (e : ℕ) → e < t → (c : ℕ) → c < n → entry M e c ≡ identity e c
