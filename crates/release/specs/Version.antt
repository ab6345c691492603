-- The numbers by which a caller sees that header and library belong together.
use Rattle.std.specs.Prelude.{ℕ, ◌+◌, ◌*◌}

-- version 1.1.1, as 10,000 times the first figure, 100 times the second, and the third
abbrev pub library_version : ℕ
library_version = 1 * 10000 + 1 * 100 + 1

-- the layout of a desk: 2 since jobs keep their lost counts and the excess (request 6)
abbrev pub desk_layout : ℕ
desk_layout = 2

-- the layout of a gather
abbrev pub gather_layout : ℕ
gather_layout = 1
