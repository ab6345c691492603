-- What the code's steps leave: a byte kept or passed over, a line answered, bytes one after the other.
use Rattle.std.specs.Prelude.{List, ℕ, ◌+◌, ◌*◌, ◌≤◌, take}
use Rattle.text_stream.specs.declared.Place.{Place}
use Rattle.text_stream.specs.Points.{Point}
use Rattle.text_stream.specs.Places.{Passed}

-- ---- bytes in order
-- the state of the loop over bytes: i of them are taken, from the point p and an empty output on
pub record Midway (bytes : List ℕ) (p : Point) (start : ℕ) (out line₂ : List ℕ) (at₂ : Place) (out₂ : List ℕ) (i : ℕ) : Type 0 where
  pub passed : Passed (take i bytes) p out line₂ at₂ out₂
  pub room : at₂.used + 12 * at₂.length ≤ 12 * (start + i)
