-- Tables of the sums of four blocks, and numbers that say which of these sums a row of constants takes for each of its bits.
use Rattle.std.specs.Prelude.{◌≡◌, List, [], ◌∷◌, ℕ, zero, suc, ◌+◌, ◌*◌, ◌/◌, ◌%◌, ◌^◌, ◌≤◌, ◌<◌, length, get_or}
use Rattle.binary_field.specs.Xor.{◌⊕◌, masked}
use Rattle.binary_field.specs.Product.{double}
use Rattle.code.specs.Stretch.{stretch}

-- bit n of k
abbrev pub bit_at : ℕ → ℕ → ℕ
bit_at n k = k / 2 ^ n % 2

-- the n lowest bits of k as digits of 16, the highest bit as the lowest digit
unfoldable pub spaced : ℕ → ℕ → ℕ
spaced zero k = 0
spaced (suc n) k = spaced n k * 16 + bit_at n k

-- the numbers 0 to 15 with their four bits so spaced
unfoldable pub halves : List ℕ
halves = 0 ∷ 4096 ∷ 256 ∷ 4352 ∷ 16 ∷ 4112 ∷ 272 ∷ 4368 ∷ 1 ∷ 4097 ∷ 257 ∷ 4353 ∷ 17 ∷ 4113 ∷ 273 ∷ 4369 ∷ []

-- the same of four constants: a digit has a bit of each
unfoldable pub selector : ℕ → ℕ → ℕ → ℕ → ℕ → ℕ
selector n a b c d = spaced n a + spaced n b * 2 + spaced n c * 4 + spaced n d * 8

-- the selector of the constants 4s to 4s + 3
unfoldable pub selector_at : List ℕ → ℕ → ℕ
selector_at k s = selector 8 (get_or k (s * 4) 0) (get_or k (s * 4 + 1) 0) (get_or k (s * 4 + 2) 0) (get_or k (s * 4 + 3) 0)

-- the selectors of every row, 60 for each
pub record Selectors (count rows : ℕ) (constants found : List ℕ) : Type 0 where
  pub each : (r s : ℕ) → r < rows → s < 60 → get_or found (r * 60 + s) 0 ≡ selector_at (stretch count r constants) s

-- the sum of those of n bytes whose bit of v is set
unfoldable pub chosen : ℕ → ℕ → (ℕ → ℕ) → ℕ
chosen zero v y = 0
chosen (suc n) v y = masked (v % 2) (y 0) ⊕ chosen n (v / 2) (λ e. y (suc e))

-- sixteen rows of 96 bytes: row v is the sum of the rows 1, 2, 4, 8 that the bits of v choose
pub record IsTable (t : List ℕ) : Type 0 where
  pub each : (v i : ℕ) → v < 16 → i < 96 → get_or t (v * 96 + i) 0 ≡ chosen 4 v (λ e. get_or t (2 ^ e * 96 + i) 0)

-- four tables one after another
pub record IsTables (t : List ℕ) : Type 0 where
  pub each : (s v i : ℕ) → s < 4 → v < 16 → i < 96
      → get_or t (s * 1536 + (v * 96 + i)) 0 ≡ chosen 4 v (λ e. get_or t (s * 1536 + (2 ^ e * 96 + i)) 0)

-- 96 bytes from b on, each the sum of those from a1 and from a2 on; all else as it was
pub record RowMade (a1 a2 b : ℕ) (before after : List ℕ) : Type 0 where
  pub long : length after ≡ length before
  pub here : (i : ℕ) → i < 96 → get_or after (b + i) 0 ≡ get_or before (a1 + i) 0 ⊕ get_or before (a2 + i) 0
  pub below : (k : ℕ) → k < b → get_or after k 0 ≡ get_or before k 0
  pub above : (k : ℕ) → b + 96 ≤ k → get_or after k 0 ≡ get_or before k 0

-- the rows h + 1 to 2h - 1, each the sum of row h and of the row h below it; all else as it was
pub record RowsMade (h : ℕ) (before after : List ℕ) : Type 0 where
  pub long : length after ≡ length before
  pub here : (u i : ℕ) → 1 ≤ u → u < h → i < 96 → get_or after ((h + u) * 96 + i) 0 ≡ get_or before (h * 96 + i) 0 ⊕ get_or before (u * 96 + i) 0
  pub below : (k : ℕ) → k < (h + 1) * 96 → get_or after k 0 ≡ get_or before k 0
  pub above : (k : ℕ) → 2 * h * 96 ≤ k → get_or after k 0 ≡ get_or before k 0

-- n bytes from a place on, copied to the place h; all else as it was
pub record PartCopied (from n h : ℕ) (blocks before after : List ℕ) : Type 0 where
  pub long : length after ≡ length before
  pub here : (i : ℕ) → i < n → get_or after (h + i) 0 ≡ get_or blocks (from + i) 0
  pub below : (k : ℕ) → k < h → get_or after k 0 ≡ get_or before k 0
  pub above : (k : ℕ) → h + n ≤ k → get_or after k 0 ≡ get_or before k 0

-- the first bytes of up to four blocks, from at on, in the rows 1, 2, 4, 8
pub record Loaded (size at have n : ℕ) (blocks before after : List ℕ) : Type 0 where
  pub long : length after ≡ length before
  pub zero : (i : ℕ) → i < 96 → get_or after i 0 ≡ get_or before i 0
  pub here : (e i : ℕ) → e < 4 → e < have → i < n → get_or after (2 ^ e * 96 + i) 0 ≡ get_or blocks (at + e * size + i) 0

-- a table of them
pub record TableMade (size at have n : ℕ) (blocks after : List ℕ) : Type 0 where
  pub long : length after ≡ 1536
  pub table : IsTable after
  pub here : (e i : ℕ) → e < 4 → e < have → i < n → get_or after (2 ^ e * 96 + i) 0 ≡ get_or blocks (at + e * size + i) 0

-- four tables, of up to sixteen blocks
pub record TablesMade (size at have n : ℕ) (blocks after : List ℕ) : Type 0 where
  pub long : length after ≡ 6144
  pub tables : IsTables after
  pub here : (s e i : ℕ) → s < 4 → e < 4 → s * 4 + e < have → i < n
      → get_or after (s * 1536 + (2 ^ e * 96 + i)) 0 ≡ get_or blocks (at + (s * 4 + e) * size + i) 0

-- byte i of the sum of the rows that four numbers name, one of each table
unfoldable pub looked : List ℕ → ℕ → ℕ → ℕ → ℕ → ℕ → ℕ
looked t i a b c d =
    get_or t (a * 96 + i) 0 ⊕ get_or t (b * 96 + 1536 + i) 0 ⊕ get_or t (c * 96 + 3072 + i) 0 ⊕ get_or t (d * 96 + 4608 + i) 0

-- n turns of: twice the byte so far, plus what the lowest digits of the selectors name
unfoldable pub turns : List ℕ → ℕ → ℕ → ℕ → ℕ → ℕ → ℕ → ℕ → ℕ
turns t i zero a b c d r = r
turns t i (suc n) a b c d r = turns t i n (a / 16) (b / 16) (c / 16) (d / 16) (double 8 285 r ⊕ looked t i (a % 16) (b % 16) (c % 16) (d % 16))

-- one turn
pub record Stepped (t : List ℕ) (a b c d : ℕ) (before after : List ℕ) : Type 0 where
  pub long : length after ≡ length before
  pub here : (i : ℕ) → i < 96
      → get_or after i 0 ≡ double 8 285 (get_or before i 0) ⊕ get_or t (a + i) 0 ⊕ get_or t (b + i) 0 ⊕ get_or t (c + i) 0 ⊕ get_or t (d + i) 0

-- eight turns, added to what was there
pub record RowAdded (t : List ℕ) (a b c d : ℕ) (before after : List ℕ) : Type 0 where
  pub long : length after ≡ length before
  pub here : (i : ℕ) → i < 96 → get_or after i 0 ≡ get_or before i 0 ⊕ turns t i 8 a b c d 0

-- so for each of the rows, by the four selectors from q on
pub record RowsAdded (t found : List ℕ) (q rows : ℕ) (before after : List ℕ) : Type 0 where
  pub long : length after ≡ length before
  pub here : (r i : ℕ) → r < rows → i < 96
      → get_or after (r * 96 + i) 0 ≡ get_or before (r * 96 + i) 0 ⊕ turns t i 8 (get_or found (r * 60 + q) 0) (get_or found (r * 60 + q + 1) 0)
      (get_or found (r * 60 + q + 2) 0) (get_or found (r * 60 + q + 3) 0) 0
  pub above : (k : ℕ) → rows * 96 ≤ k → get_or after k 0 ≡ get_or before k 0
