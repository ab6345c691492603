-- Sums of blocks times constants, byte by byte.
use Rattle.std.specs.Prelude.{◌≡◌, ◌⊎◌, List, ℕ, ◌+◌, ◌*◌, ◌≤◌, ◌<◌, length, get_or}
use Rattle.binary_field.specs.Product.{product}
use Rattle.binary_field.specs.Sum.{sum_below}

-- byte x of the sum of the blocks first, first + 1, .. , each times its constant: row r of constants has count of them
unfoldable pub block_sum : ℕ → List ℕ → ℕ → ℕ → List ℕ → ℕ → ℕ → ℕ
block_sum size blocks first count constants r x =
    sum_below count (λ j. product 8 285 (get_or constants (r * count + j) 0) (get_or blocks ((first + j) * size + x) 0))

-- the blocks and the constants named are there
pub record Named (size : ℕ) (blocks : List ℕ) (first count rows : ℕ) (constants : List ℕ) : Type 0 where
  pub inside : (first + count) * size ≤ length blocks
  pub most : length blocks ≤ 65536
  pub small : size ≤ 65536
  pub few : count ≤ 240
  pub rows_few : rows ≤ 4
  pub laid : rows * count ≤ length constants

-- the lowest x below the limit at which one of the sums is not 0; the limit if there is none
pub record ZeroUntil (size : ℕ) (blocks : List ℕ) (first count rows : ℕ) (constants : List ℕ) (limit r : ℕ) : Type 0 where
  pub most : r ≤ limit
  pub zero : (x : ℕ) → x < r → (i : ℕ) → i < rows → block_sum size blocks first count constants i x ≡ 0
  pub stop : r < limit → ((i : ℕ) → i < rows → block_sum size blocks first count constants i r ≡ 0) → ⊥

-- the blocks that the sums are to be written to are there
pub record Aimed (size : ℕ) (blocks : List ℕ) (rows : ℕ) (to : List ℕ) : Type 0 where
  pub inside : (i : ℕ) → i < rows → (get_or to i 0 + 1) * size ≤ length blocks

-- block to_i became sum i, unless a later sum was written over it; all else stayed
pub record SumsWritten (size : ℕ) (before : List ℕ) (first count rows : ℕ) (constants to after : List ℕ) : Type 0 where
  pub long : length after ≡ length before
  pub here : (i : ℕ) → i < rows → ((j : ℕ) → i < j → j < rows → get_or to j 0 ≡ get_or to i 0 → ⊥) → (x : ℕ) → x < size
      → get_or after (get_or to i 0 * size + x) 0 ≡ block_sum size before first count constants i x
  pub other : (k : ℕ) → ((i : ℕ) → i < rows → (k < get_or to i 0 * size) ⊎ ((get_or to i 0 + 1) * size ≤ k)) → get_or after k 0 ≡ get_or before k 0

-- 96 bytes for each row: byte i of the sum from x on
pub record StripSums (size : ℕ) (blocks : List ℕ) (first count rows : ℕ) (constants : List ℕ) (x n : ℕ) (sums : List ℕ) : Type 0 where
  pub long : length sums ≡ 384
  pub here : (r i : ℕ) → r < rows → i < n → get_or sums (r * 96 + i) 0 ≡ block_sum size blocks first count constants r (x + i)

-- the lowest i below n at which one of the rows is not 0; n if there is none
pub record ZeroStrip (rows n : ℕ) (sums : List ℕ) (r : ℕ) : Type 0 where
  pub most : r ≤ n
  pub zero : (i : ℕ) → i < r → (k : ℕ) → k < rows → get_or sums (k * 96 + i) 0 ≡ 0
  pub stop : r < n → ((k : ℕ) → k < rows → get_or sums (k * 96 + r) 0 ≡ 0) → ⊥

-- n bytes of each row written to its block, from x on; all else stayed
pub record StripWritten (size x n rows : ℕ) (sums to before after : List ℕ) : Type 0 where
  pub long : length after ≡ length before
  pub here : (i : ℕ) → i < rows → ((j : ℕ) → i < j → j < rows → get_or to j 0 ≡ get_or to i 0 → ⊥) → (y : ℕ) → y < n
      → get_or after (get_or to i 0 * size + x + y) 0 ≡ get_or sums (i * 96 + y) 0
  pub other : (k : ℕ) → ((i : ℕ) → i < rows → (k < get_or to i 0 * size + x) ⊎ (get_or to i 0 * size + x + n ≤ k)) → get_or after k 0 ≡ get_or before k 0

-- the bytes below x of every sum are written
pub record WrittenBelow (size : ℕ) (before : List ℕ) (first count rows : ℕ) (constants to : List ℕ) (x : ℕ) (after : List ℕ) : Type 0 where
  pub long : length after ≡ length before
  pub here : (i : ℕ) → i < rows → ((j : ℕ) → i < j → j < rows → get_or to j 0 ≡ get_or to i 0 → ⊥) → (y : ℕ) → y < x
      → get_or after (get_or to i 0 * size + y) 0 ≡ block_sum size before first count constants i y
  pub later : (p y : ℕ) → x ≤ y → y < size → get_or after (p * size + y) 0 ≡ get_or before (p * size + y) 0
  pub other : (k : ℕ) → ((i : ℕ) → i < rows → (k < get_or to i 0 * size) ⊎ ((get_or to i 0 + 1) * size ≤ k)) → get_or after k 0 ≡ get_or before k 0
