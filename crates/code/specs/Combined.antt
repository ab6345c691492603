-- A word plus multiples of others: its sums are the same combination of theirs, so codewords combine to codewords.
use Rattle.std.specs.Prelude.{List, ℕ, get_or}
use Rattle.binary_field.specs.Xor.{◌⊕◌}
use Rattle.binary_field.specs.Sum.{sum_below}
use Rattle.code.specs.Edition.{Edition, times}
use Rattle.code.specs.Determined.{list_of}

-- base + Σ u i · H i, over the n places
unfoldable pub combined : Edition → ℕ → List ℕ → ℕ → (ℕ → ℕ) → (ℕ → List ℕ) → List ℕ
combined E n base x u H = list_of n (λ p. get_or base p 0 ⊕ sum_below x (λ i. times E (u i) (get_or (H i) p 0)))
