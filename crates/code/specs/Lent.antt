-- A word or marks that are lent with a good shape, and the part of them that a loop over the groups lends on.
use Rattle.std.specs.Prelude.{◌≡◌, List, ℕ, ◌*◌, length}
use Rattle.code.specs.Limits.{Limits, GoodIn}

-- a good shape and a list of its length
pub record LentIn (B : Limits) (m w c : ℕ) (xs : List ℕ) : Type 0 where
  pub good : GoodIn B m w c
  pub size : length xs ≡ m * w
