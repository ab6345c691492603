-- A part of at most sixteen places, followed by zeros up to sixteen.
use Rattle.std.specs.Prelude.{◌≡◌, List, ℕ, ◌<◌, length, get_or}

pub record Padded (part x : List ℕ) : Type 0 where
  pub size : length x ≡ 16
  pub each : (j : ℕ) → j < 16 → get_or x j 0 ≡ get_or part j 0
