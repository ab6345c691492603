-- "Each input line gives exactly one output line.": what an answer can be, and the lines of a session's output.
use Rattle.std.specs.Prelude.{◌≡◌, List, [], ◌∷◌, ◌++◌, ℕ, T}
use Rattle.text.specs.Decimal.{without}

-- ---- an output line has one line feed, at its end
pub record IsLine (output : List ℕ) : Type 0 where
  pub body : List ℕ
  pub clean : T (without 10 body)
  pub ends : output ≡ body ++ (10 ∷ [])
