-- The steps of a candidate, from the marks copied to the free places mended.
use Rattle.std.specs.Prelude.{◌≡◌, List, ℕ, ◌*◌, length}
use Rattle.code.specs.Limits.{Limits, GoodIn}

-- what is lent: a word of n places, marks, and room for the marks bound and for the candidate
abbrev pub RebuildLent : Limits → ℕ → ℕ → ℕ → ℕ → List ℕ → ℕ → ℕ → Type 0
RebuildLent B m w c n marks k o = GoodIn B m w c × ((n ≡ m * w) × ((length marks ≡ m * w) × ((k ≡ m * w) × (o ≡ m * w))))
