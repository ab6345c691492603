-- The equations of one group reduced at the places that it keeps: each of the first t equations gives one bound place as a sum over the
-- places that are not bound, and the bound places stand in no other equation.
use Rattle.std.specs.Prelude.{◌≡◌, true, List, ℕ, ◌<◌, ◌≤◌}
use Rattle.counting.specs.Count.{count_below}
use Rattle.binary_field.specs.Xor.{◌⊕◌}
use Rattle.binary_field.specs.Sum.{sum_below}
use Rattle.binary_field.specs.Inverse.{inverse}
use Rattle.code.specs.Edition.{Edition, times}
use Rattle.code.specs.Marks.{lost}
use Rattle.code_engine.specs.EliminationSteps.{identity}

module _ (E : Edition) (w : ℕ) where
  -- the sum over w places of symbol · coefficient
  unfoldable pub dot : (ℕ → ℕ) → (ℕ → ℕ) → ℕ
  dot y h = sum_below w (λ j. times E (y j) (h j))

  -- the first t equations hold of y
  abbrev pub Meets : ℕ → (ℕ → ℕ) → (ℕ → ℕ → ℕ) → Type 0
  Meets t y H = (e : ℕ) → e < t → dot y (H e) ≡ 0

  module _ (n : ℕ) (bound : List ℕ) where
    -- the rows M of the n equations H, reduced at the bound places below p, of which there are t: in the column of a bound place stands 1 in
    -- the row of its own number and 0 in every other; the first t rows hold where the first t equations do, and only there; and where
    -- they hold every other row sums up to what its equation does
    pub record ReducedTo (p t : ℕ) (H M : ℕ → ℕ → ℕ) : Type 0 where
      pub count : t ≡ count_below p (lost bound)
      pub unit : (q : ℕ) → q < p → lost bound q ≡ true → (i : ℕ) → i < n → M i q ≡ identity i (count_below q (lost bound))
      pub forth : (y : ℕ → ℕ) → Meets t y H → Meets t y M
      pub back : (y : ℕ → ℕ) → Meets t y M → Meets t y H
      pub rest : (y : ℕ → ℕ) → Meets t y H → (i : ℕ) → t ≤ i → i < n → dot y (M i) ≡ dot y (H i)

  -- the rows after row t is divided by its entry in column p, and its multiples clear that column in the other rows
  pub record Pivoted (n p t : ℕ) (M M' : ℕ → ℕ → ℕ) : Type 0 where
    pub own : (j : ℕ) → j < w → M' t j ≡ times E (M t j) (inverse E.bits E.poly (M t p))
    pub other : (i : ℕ) → i < n → (i ≡ t → ⊥) → (j : ℕ) → j < w → M' i j ≡ M i j ⊕ times E (M' t j) (M i p)
