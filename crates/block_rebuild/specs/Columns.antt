-- Blocks of equal length laid end to end, and the words that they make.
use Rattle.std.specs.Prelude.{List, ℕ, ◌+◌, ◌*◌, ◌/◌, ◌%◌, get_or}
use Rattle.code.specs.Determined.{list_of}

-- "byte x of every block makes word x": of n blocks of length size, the byte of block p that stands at p·size + x
unfoldable pub block_word : ℕ → ℕ → List ℕ → ℕ → List ℕ
block_word n size blocks x = list_of n (λ p. get_or blocks (p * size + x) 0)

-- the n blocks of length size that words make: byte x of block p is byte p of word x
unfoldable pub blocks_of : ℕ → ℕ → (ℕ → List ℕ) → List ℕ
blocks_of n size words = list_of (n * size) (λ i. get_or (words (i % size)) (i / size) 0)
