-- A word that is zero outside one group: its sums are those of the group's stretch.
use Rattle.std.specs.Prelude.{List, ℕ, ◌*◌}
use Rattle.code.specs.Blank.{blank}
use Rattle.code.specs.Stretch.{with_stretch}

-- the word of m groups with part in group g and 0 elsewhere
abbrev pub lone : ℕ → ℕ → ℕ → List ℕ → List ℕ
lone m w g part = with_stretch w g (blank (m * w)) part
