-- What is printed reads back as what was meant.
use Rattle.std.specs.Prelude.{List, ℕ, ◌<◌, get_or}

-- a list of bytes
abbrev pub Bytes : List ℕ → Type 0
Bytes xs = (i : ℕ) → get_or xs i 0 < 256
