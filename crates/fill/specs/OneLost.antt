-- One lost place of a group.
use Rattle.std.specs.Prelude.{List, ℕ, length, get_or, set}
use Rattle.binary_field.specs.Sum.{sum_below}

-- the sum of all others at place p: equation 0 has the coefficient 1 at every place
abbrev pub with_others_sum : List ℕ → ℕ → List ℕ
with_others_sum part p = set (set part p 0) p (sum_below (length (set part p 0)) (λ i. get_or (set part p 0) i 0))
