-- A whole word of a block rebuild, in terms of its groups.
use Rattle.std.specs.Prelude.{List, ℕ, ◌+◌, ◌*◌, ◌<◌}
use Rattle.binary_field.specs.Sum.{sum_below}
use Rattle.code.specs.Edition.{times}
use Rattle.code.specs.Stretch.{stretch}
use Rattle.byte_edition.specs.Edition.{byte_edition}
use Rattle.block_laws.specs.Group.{StandsFor}

-- the sum over n places of symbol · constant
unfoldable pub row_sum : ℕ → (ℕ → ℕ) → (ℕ → ℕ) → ℕ
row_sum n v a = sum_below n (λ p. times byte_edition (v p) (a p))

-- constants that stand for equation i in every group
abbrev pub Across : ℕ → ℕ → ℕ → List ℕ → ℕ → (ℕ → ℕ) → Type 0
Across m w c bound i a = (g : ℕ) → g < m → StandsFor w c g (stretch w g bound) i (λ j. a (g * w + j))
