-- One place of a group filled: the others stay, and the symbols add up to zero.
use Rattle.std.specs.Prelude.{◌≡◌, List, ℕ, length, get_or}
use Rattle.binary_field.specs.Sum.{sum_below}

pub record FilledAt (p : ℕ) (before after : List ℕ) : Type 0 where
  pub size : length after ≡ length before
  pub others : (i : ℕ) → (i ≡ p → ⊥) → get_or after i 0 ≡ get_or before i 0
  pub zero : sum_below (length after) (λ i. get_or after i 0) ≡ 0
