-- What the steps of a block rebuild take.
use Rattle.std.specs.Prelude.{◌≡◌, List, ℕ, ◌*◌, ◌≤◌, ◌<◌, length}
use Rattle.shape.specs.Shapes.{byte_limits}
use Rattle.code.specs.Limits.{place_count, GoodIn}

-- n blocks of length size, at most 65,536 bytes in all, and marks of a good shape
pub record Lent (m w c size : ℕ) (blocks marks : List ℕ) : Type 0 where
  pub good : GoodIn byte_limits m w c
  pub marks-size : length marks ≡ place_count m w
  pub some : 1 ≤ size
  pub blocks-size : length blocks ≡ place_count m w * size
  pub most : length blocks ≤ 65536

-- and x the number of a word
pub record Room (m w c size x : ℕ) (blocks marks : List ℕ) : Type 0 where
  pub lent : Lent m w c size blocks marks
  pub inside : x < size
