-- One step of the two rows that the sums across are worked from: a group's stretch is added to the one, and to twice the other.
use Rattle.std.specs.Prelude.{◌≡◌, List, ℕ, ◌<◌, length, get_or}
use Rattle.binary_field.specs.Xor.{◌⊕◌}
use Rattle.binary_field.specs.Product.{double}

-- a stretch added
pub record Plus (part before after : List ℕ) : Type 0 where
  pub size : length after ≡ length before
  pub each : (i : ℕ) → i < length part → get_or after i 0 ≡ get_or before i 0 ⊕ get_or part i 0

-- a stretch added to twice what was there
pub record TwicePlus (part before after : List ℕ) : Type 0 where
  pub size : length after ≡ length before
  pub each : (i : ℕ) → i < length part → get_or after i 0 ≡ double 16 69643 (get_or before i 0) ⊕ get_or part i 0
