-- What a byte does to the line so far, to the room for output and to the output.
use Rattle.std.specs.Prelude.{◌≡◌, List, ℕ, ◌+◌, ◌*◌, ◌≤◌, length, take}
use Rattle.text.specs.Written.{written}
use Rattle.text_session.specs.Turn.{Turn, turn_of}
use Rattle.text_stream.specs.declared.Place.{Place}
use Rattle.text_stream.specs.Points.{Point, next, after_bytes, said, adds, kept_point}

-- the point of a row of bytes and the place in it
unfoldable pub point_at : List ℕ → Place → Point
point_at line at = record { line = take at.length line; m = at.m; w = at.w; c = at.c }

-- the turn of the line so far
abbrev pub turn_on : List ℕ → Place → Turn
turn_on line at = turn_of (take at.length line) at.m at.w at.c

-- the place after a turn: an empty line, the output line written, and the shape then in force
abbrev pub ended_by : Turn → ℕ → Place
ended_by t used = record { length = 0; used = used + length t.output; m = t.m; w = t.w; c = t.c }

-- a byte x taken: the row of bytes, the place and the output before and after it
pub record Taken (x : ℕ) (line : List ℕ) (at : Place) (out line₂ : List ℕ) (at₂ : Place) (out₂ : List ℕ) : Type 0 where
  pub point : point_at line₂ at₂ ≡ kept_point (next (point_at line at) x)
  pub used : at₂.used ≡ at.used + length (said (point_at line at) x)
  pub output : out₂ ≡ written out at.used (said (point_at line at) x)
  pub fits : at₂.length ≤ 1025
  pub room : at₂.used + 12 * at₂.length ≤ at.used + 12 * (at.length + 1)

-- bytes xs taken from the point p on, with an empty output before them
pub record Passed (xs : List ℕ) (p : Point) (out line₂ : List ℕ) (at₂ : Place) (out₂ : List ℕ) : Type 0 where
  pub point : point_at line₂ at₂ ≡ kept_point (after_bytes p xs)
  pub used : at₂.used ≡ length (adds p xs)
  pub output : out₂ ≡ written out 0 (adds p xs)
  pub fits : at₂.length ≤ 1025
