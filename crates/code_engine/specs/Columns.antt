-- "Show that for every good shape and such marks the one or two columns left for the equations across are independent": the columns that are
-- left, and what is shown of them. No lent word plays a part.
use Rattle.std.specs.Prelude.{◌≡◌, List, ℕ, ◌/◌, ◌%◌, ◌^◌, ◌<◌}
use Rattle.binary_field.specs.Sum.{sum_below}
use Rattle.code.specs.Edition.{Edition, times}
use Rattle.code.specs.Word.{first_across, second_across}
use Rattle.code.specs.Marks.{excess}
use Rattle.code.specs.Stretch.{stretch}
use Rattle.code_engine.specs.BoundGroups.{BoundAll}
use Rattle.code_engine.specs.FreePlaces.{FreePlaces, free_at}
use Rattle.code_engine.specs.CandidateSteps.{DirectionIn}
use Rattle.code_engine.specs.AssemblyLaws.{way_of}

-- What is left for the equations across once each group's own equations are used.
pub record Left (E : Edition) (m w c : ℕ) (marks : List ℕ) : Type 0 where
  -- the lost places that the groups keep for their own equations, up to c in each
  pub bound : List ℕ
  pub keeps : BoundAll m w c marks bound
  -- the others, x of them, are free
  pub x : ℕ
  pub first : ℕ
  pub second : ℕ
  pub places : FreePlaces marks bound x first second
  -- the direction of each on its group: 1 there, 0 at every other place that is not bound, and the group's own equations are met
  pub h : ℕ → List ℕ
  pub way : (i : ℕ) → i < x → DirectionIn E w (free_at first second i % w) (stretch w (free_at first second i / w) bound) (h i)

module _ (E : Edition) (m w c : ℕ) (marks : List ℕ) (L : Left E m w c marks) where
  -- the column of free place i: the two sums across of its direction in the whole word
  abbrev pub upper : ℕ → ℕ
  upper i = first_across E m w c (way_of m w (free_at L.first L.second) L.h i)

  abbrev pub lower : ℕ → ℕ
  lower i = second_across E m w c (way_of m w (free_at L.first L.second) L.h i)

  -- multiples of the columns add up to zero only if all are zero
  pub record Independent : Type 0 where
    pub only_zero : (v : ℕ → ℕ) → ((i : ℕ) → v i < 2 ^ E.bits) → sum_below L.x (λ i. times E (v i) (upper i)) ≡ 0
        → sum_below L.x (λ i. times E (v i) (lower i)) ≡ 0 → (i : ℕ) → i < L.x → v i ≡ 0

-- there are such columns, and however the bound places are chosen they are as many as the excess and independent
pub record ColumnsIndependent (E : Edition) (m w c : ℕ) (marks : List ℕ) : Type 0 where
  pub some : Left E m w c marks
  pub count : (L : Left E m w c marks) → L.x ≡ excess m w c marks
  pub independent : (L : Left E m w c marks) → Independent E m w c marks L
