-- A loop over the groups of a word, at group g.
use Rattle.std.specs.Prelude.{◌≡◌, List, ℕ, ◌+◌, ◌-◌, ◌*◌, ◌≤◌, length}
use Rattle.code.specs.Limits.{Limits, GoodIn}

-- A list as long as a word of a good shape, of which g groups are done. The last field says in linear arithmetic that a group
-- below m ends within the list: 1 − (m − g) is 0 there.
pub record GroupTurn (B : Limits) (m w c : ℕ) (xs : List ℕ) (g : ℕ) : Type 0 where
  pub good : GoodIn B m w c
  pub size : length xs ≡ m * w
  pub done : g ≤ m
  pub ends : g * w + w ≤ m * w + B.width * (1 - (m - g))
