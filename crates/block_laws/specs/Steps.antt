-- What the steps of the engine take and leave.
use Rattle.std.specs.Prelude.{◌≡◌, true, List, ℕ, ◌+◌, ◌*◌, ◌<◌, ◌≤◌, length, get_or}
use Rattle.counting.specs.Count.{count_below}
use Rattle.shape.specs.Shapes.{byte_limits}
use Rattle.code.specs.Edition.{raised}
use Rattle.code.specs.Word.{coefficient}
use Rattle.code.specs.Marks.{lost, lost_in}
use Rattle.code.specs.Stretch.{stretch}
use Rattle.code.specs.Limits.{GoodIn}
use Rattle.byte_edition.specs.Edition.{byte_edition}
use Rattle.block_constants.specs.Reduced.{ReducedTo}
use Rattle.block_laws.specs.Group.{check_of, masked, AgreesIn, StandsFor}

-- the coefficients of the two sums across, the second without the factor of the group
pub record Coefficients (c : ℕ) (first second : List ℕ) : Type 0 where
  pub first-at : (j : ℕ) → j < 16 → get_or first j 0 ≡ coefficient byte_edition c j
  pub second_at : (j : ℕ) → j < 16 → get_or second j 0 ≡ raised byte_edition (coefficient byte_edition c j) 16

-- n blocks of length size, at most 65,536 bytes in all, and marks of the bound places, at most c in each group
pub record Given (m w c size : ℕ) (blocks bound : List ℕ) : Type 0 where
  pub good : GoodIn byte_limits m w c
  pub bound-size : length bound ≡ m * w
  pub few : (g : ℕ) → g < m → lost_in w bound g ≤ c
  pub some : 1 ≤ size
  pub blocks-size : length blocks ≡ m * w * size
  pub most : length blocks ≤ 65536

-- r is the lowest number below the limit of which P does not hold, and the limit if there is none
pub record Limit (limit r : ℕ) (P : ℕ → Type 0) : Type 0 where
  pub most : r ≤ limit
  pub holds : (x : ℕ) → x < r → P x
  pub stops : r < limit → P r → ⊥

-- byte x of block p
abbrev pub place_symbol : ℕ → List ℕ → ℕ → ℕ → ℕ
place_symbol size blocks x p = get_or blocks (p * size + x) 0

-- the first four of a group's reduced rows, one after another, with 0 at the bound places
pub record GroupKept (w c g : ℕ) (bound part : List ℕ) : Type 0 where
  pub long : length part ≡ 4 * w
  pub rows : ℕ → ℕ → ℕ
  pub reduced : ReducedTo byte_edition w 6 bound w (lost_in w bound 0) (check_of c g) rows
  pub here : (r : ℕ) → r < 4 → (j : ℕ) → j < w → get_or part (r * w + j) 0 ≡ masked bound (rows r) j

-- so of every group below n
pub record KeptUpTo (w c n : ℕ) (bound kept : List ℕ) : Type 0 where
  pub long : length kept ≡ 960
  pub here : (g : ℕ) → g < n → GroupKept w c g (stretch w g bound) (stretch (4 * w) g kept)

-- the bound places of a group, in order, counted from base on
pub record Targets (base : ℕ) (bound to : List ℕ) (w t : ℕ) : Type 0 where
  pub own : (j : ℕ) → j < w → lost bound j ≡ true → get_or to (count_below j (lost bound)) 0 ≡ base + j
  pub each : (i : ℕ) → i < t → (j : ℕ) × (j < w) × (lost bound j ≡ true) × (get_or to i 0 ≡ base + j) × (count_below j (lost bound) ≡ i)

-- what group g has in the two rows across is written; the rest is as it was
pub record AcrossPut (m w c g : ℕ) (bound before after : List ℕ) : Type 0 where
  pub long : length after ≡ length before
  pub first : StandsFor w c g bound 4 (λ j. get_or after (g * w + j) 0)
  pub second : StandsFor w c g bound 5 (λ j. get_or after ((m + g) * w + j) 0)
  pub other : (k j : ℕ) → ¬ (k ≡ g) → ¬ (k ≡ m + g) → j < w → get_or after (k * w + j) 0 ≡ get_or before (k * w + j) 0

-- so every group below n
pub record AcrossUpTo (m w c n : ℕ) (bound out : List ℕ) : Type 0 where
  pub long : length out ≡ 480
  pub first : (g : ℕ) → g < n → StandsFor w c g (stretch w g bound) 4 (λ j. get_or out (g * w + j) 0)
  pub second : (g : ℕ) → g < n → StandsFor w c g (stretch w g bound) 5 (λ j. get_or out ((m + g) * w + j) 0)
  pub small : (i : ℕ) → get_or out i 0 < 256

-- every group
abbrev pub AcrossRows : ℕ → ℕ → ℕ → List ℕ → List ℕ → Type 0
AcrossRows m w c bound out = AcrossUpTo m w c m bound out

-- the bound blocks of group g are filled: in every word whatever meets the group's local equations and has the symbols that are not bound
-- stands in the group; the other places are as they were
pub record GroupFilled (w c size g : ℕ) (bound before after : List ℕ) : Type 0 where
  pub long : length after ≡ length before
  pub here : (x : ℕ) → x < size → (y : ℕ → ℕ) → AgreesIn w c g bound (λ j. place_symbol size before x (g * w + j)) y
      → (j : ℕ) → j < w → place_symbol size after x (g * w + j) ≡ y j
  pub other : (p x : ℕ) → x < size → ((j : ℕ) → j < w → p ≡ g * w + j → ⊥) → place_symbol size after x p ≡ place_symbol size before x p

-- so every group below n
pub record GroupsFilled (w c size n : ℕ) (bound before after : List ℕ) : Type 0 where
  pub long : length after ≡ length before
  pub here : (g : ℕ) → g < n → (x : ℕ) → x < size → (y : ℕ → ℕ) → AgreesIn w c g (stretch w g bound) (λ j. place_symbol size before x (g * w + j)) y
      → (j : ℕ) → j < w → place_symbol size after x (g * w + j) ≡ y j
  pub other : (p x : ℕ) → x < size → n * w ≤ p → place_symbol size after x p ≡ place_symbol size before x p
