-- The two rows that the sums across are worked from: over n groups from g on, the sum of each place, and the sum with 2^i before the i-th of
-- these groups, as Horner's rule makes it from the last group on.
use Rattle.std.specs.Prelude.{◌≡◌, List, ℕ, ◌+◌, ◌*◌, ◌<◌, get_or}
use Rattle.binary_field.specs.Xor.{◌⊕◌}
use Rattle.binary_field.specs.Product.{double}
use Rattle.binary_field.specs.Sum.{sum_below}
use Rattle.code.specs.Edition.{Edition, times, raised}

-- the sum of place j
unfoldable pub column_sum : ℕ → List ℕ → ℕ → ℕ → ℕ → ℕ
column_sum w word g n j = sum_below n (λ i. get_or word ((g + i) * w + j) 0)

-- the same, with 2^i before the i-th group
unfoldable pub horner_sum : Edition → ℕ → List ℕ → ℕ → ℕ → ℕ → ℕ
horner_sum E w word g n j = sum_below n (λ i. times E (raised E 2 i) (get_or word ((g + i) * w + j) 0))

-- x and y hold these sums in their places below w
pub record HornerRows (E : Edition) (w : ℕ) (word : List ℕ) (g n : ℕ) (x y : List ℕ) : Type 0 where
  pub plain : (j : ℕ) → j < w → get_or x j 0 ≡ column_sum w word g n j
  pub weighted : (j : ℕ) → j < w → get_or y j 0 ≡ horner_sum E w word g n j

-- sixteen bytes of a part are added to x, and to twice y; a part counts as followed by zeros
pub record AddedRows (part x y plain weighted : List ℕ) : Type 0 where
  pub each-plain : (j : ℕ) → j < 16 → get_or plain j 0 ≡ get_or x j 0 ⊕ get_or part j 0
  pub each-weighted : (j : ℕ) → j < 16 → get_or weighted j 0 ≡ double 8 285 (get_or y j 0) ⊕ get_or part j 0
