-- The lost places of a whole word, group by group.
use Rattle.std.specs.Prelude.{◌≡◌, true, false, List, ℕ, zero, suc, ◌+◌, ◌*◌, ◌≤◌, ◌<◌, length, get_or}
use Rattle.counting.specs.Count.{count_below}
use Rattle.code.specs.Marks.{lost, lost_in, excess}
use Rattle.code.specs.Stretch.{stretch, with_stretch}
use Rattle.code_engine.specs.Bound.{free, bound_of}
use Rattle.code_engine.specs.BoundLaws.{bound-full}

-- the marks of m groups with the first c lost places of each group lost and the later ones not
unfoldable pub bound_groups : ℕ → ℕ → ℕ → List ℕ → List ℕ
bound_groups zero w c marks = marks
bound_groups (suc g) w c marks = with_stretch w g (bound_groups g w c marks) (bound_of c (stretch w g marks))

-- bound marks, of the lost places, those that the m groups keep for their own equations
pub record BoundAll (m w c : ℕ) (marks bound : List ℕ) : Type 0 where
  pub size : length bound ≡ length marks
  -- a present place is not bound
  pub bound-lost : (p : ℕ) → p < m * w → lost marks p ≡ false → lost bound p ≡ false
  pub bound-few : (g : ℕ) → g < m → lost_in w bound g ≤ c
  -- a group with a free place keeps c
  pub bound-full : (g j : ℕ) → g < m → j < w → lost marks (g * w + j) ≡ true → lost bound (g * w + j) ≡ false → lost_in w bound g ≡ c
  -- the free places are as many as the excess
  pub free-count : count_below (m * w) (free marks bound) ≡ excess m w c marks

-- the first g groups are bound, and the places after them are as they were
pub record BoundUpTo (g w c : ℕ) (marks held : List ℕ) : Type 0 where
  pub size : length held ≡ length marks
  pub done : (h : ℕ) → h < g → stretch w h held ≡ bound_of c (stretch w h marks)
  pub rest : (p : ℕ) → g * w ≤ p → get_or held p 0 ≡ get_or marks p 0
  pub equal : held ≡ bound_groups g w c marks
