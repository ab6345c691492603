-- What the engine takes, and what it finds and leaves.
use Rattle.std.specs.Prelude.{◌≡◌, false, List, ℕ, ◌*◌, ◌<◌, ◌≤◌, length, get_or}
use Rattle.shape.specs.Shapes.{byte_limits}
use Rattle.code.specs.Marks.{lost, excess}
use Rattle.code.specs.Determined.{list_of}
use Rattle.code.specs.Recovery.{Agrees}
use Rattle.code.specs.Limits.{GoodIn}
use Rattle.byte_edition.specs.Edition.{byte_edition}
use Rattle.block_laws.specs.Steps.{Limit, place_symbol}

-- a good shape, marks and blocks of its lengths, at most 65,536 bytes of blocks, and an excess of at most two
pub record Ready (m w c size lent : ℕ) (marks : List ℕ) : Type 0 where
  pub good : GoodIn byte_limits m w c
  pub marks-size : length marks ≡ m * w
  pub some : 1 ≤ size
  pub blocks-size : lent ≡ m * w * size
  pub most : lent ≤ 65536
  pub low : excess m w c marks ≤ 2

-- word x of the blocks
abbrev pub word_of : ℕ → ℕ → List ℕ → ℕ → List ℕ
word_of n size blocks x = list_of n (place_symbol size blocks x)

-- some codeword agrees with word x
abbrev pub Recoverable : ℕ → ℕ → ℕ → ℕ → List ℕ → List ℕ → ℕ → Type 0
Recoverable m w c size blocks marks x = (y : List ℕ) × Agrees byte_edition m w c marks (word_of (m * w) size blocks x) y

-- the free blocks are written: every word with which a codeword agrees is that codeword, but for the bound places
pub record FreeWritten (m w c size : ℕ) (marks bound before after : List ℕ) : Type 0 where
  pub long : length after ≡ length before
  pub here : (x : ℕ) → x < size → (y : List ℕ) → Agrees byte_edition m w c marks (word_of (m * w) size before x) y
      → (p : ℕ) → p < m * w → lost bound p ≡ false → place_symbol size after x p ≡ get_or y p 0

-- every word with which a codeword agrees is that codeword
pub record Restored (m w c size : ℕ) (marks before after : List ℕ) : Type 0 where
  pub long : length after ≡ length before
  pub here : (x : ℕ) → x < size → (y : List ℕ) → Agrees byte_edition m w c marks (word_of (m * w) size before x) y
      → (p : ℕ) → p < m * w → place_symbol size after x p ≡ get_or y p 0

-- r is the lowest word with which no codeword agrees, and the blocks are as they were; or the length of a block, and every word is restored
pub record Mended (m w c size : ℕ) (marks : List ℕ) (r : ℕ) (before after : List ℕ) : Type 0 where
  pub lowest : Limit size r (Recoverable m w c size before marks)
  pub unchanged : r < size → after ≡ before
  pub restored : r ≡ size → Restored m w c size marks before after
