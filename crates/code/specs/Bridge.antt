-- The words of numbers as words over the field of `algebra`: the same sums, the same codewords, the same excess.
use Rattle.std.specs.Prelude.{List, ℕ, ◌<◌, ◌≤◌, get_or}
use Rattle.binary_field.specs.Element.{Element, reduced}
use Rattle.code.specs.Edition.{Edition, Sound}

module _ (E : Edition) (S : Sound E) (m w c : ℕ) (few : m ≤ S.r) (wide : 0 < w) (narrow : w ≤ E.small) where
  -- the symbol at a place
  unfoldable pub symbol : List ℕ → ℕ → Element E.bits
  symbol word p = reduced E.bits (get_or word p 0)
