-- A multiple of a direction added to its group, and the sums across of directions.
use Rattle.std.specs.Prelude.{◌≡◌, List, ℕ, ◌*◌, ◌/◌, ◌%◌, ◌≤◌, ◌<◌, length, get_or}
use Rattle.binary_field.specs.Xor.{◌⊕◌}
use Rattle.code.specs.Edition.{Edition, times}
use Rattle.code.specs.Limits.{GoodIn}
use Rattle.code.specs.Word.{first_across, second_across}
use Rattle.code.specs.Stretch.{stretch}
use Rattle.code.specs.Lone.{lone}
use Rattle.code_engine.specs.CandidateSteps.{DirectionIn}
use Rattle.code_engine.specs.Mended.{BoundFew}

-- the first i places have u times h added
pub record AddTurn (E : Edition) (u : ℕ) (h before part : List ℕ) (i : ℕ) : Type 0 where
  pub done : i ≤ length before
  pub size : length part ≡ length before
  pub added : (k : ℕ) → k < i → get_or part k 0 ≡ get_or before k 0 ⊕ times E u (get_or h k 0)
  pub rest : (k : ℕ) → i ≤ k → get_or part k 0 ≡ get_or before k 0

-- a type of two sums: each edition has its own
pub record PairType (X : Type 0) : Type 0 where
  pub pair : ℕ → ℕ → X
  pub first : X → ℕ
  pub second : X → ℕ
  pub first-is : (a b : ℕ) → first (pair a b) ≡ a
  pub second_is : (a b : ℕ) → second (pair a b) ≡ b

-- the two sums across of a word
abbrev pub across_in : {X : Type 0} → PairType X → Edition → ℕ → ℕ → ℕ → List ℕ → X
across_in P E m w c word = P.pair (first_across E m w c word) (second_across E m w c word)

-- a is the sums across of the direction h of place p, which is free
pub record WayIn {X : Type 0} (P : PairType X) (E : Edition) (m w c p : ℕ) (bound h : List ℕ) (a : X) : Type 0 where
  pub good : GoodIn E.limits m w c
  pub inside : p < m * w
  pub few : BoundFew m w c p bound
  pub way : DirectionIn E w (p % w) (stretch w (p / w) bound) h
  pub sums : a ≡ across_in P E m w c (lone m w (p / w) h)
