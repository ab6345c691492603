-- The positions of lost places, in order.
use Rattle.std.specs.Prelude.{◌≡◌, true, cond, List, [], ◌∷◌, ℕ, suc, ◌-◌, ◌≤◌, ◌<◌, eqb, length, get_or, take, replicate}
use Rattle.code.specs.Marks.{lost, lost_in}

-- the first t positions are below w
abbrev pub Inside : ℕ → List ℕ → ℕ → Type 0
Inside w at t = (i : ℕ) → i < t → get_or at i 0 < w

-- t positions below w, ascending, each of a lost place
pub record Positions (marks : List ℕ) (w : ℕ) (at : List ℕ) (t : ℕ) : Type 0 where
  pub inside : Inside w at t
  pub erased : (i : ℕ) → i < t → lost marks (get_or at i 0) ≡ true
  pub ascending : (i j : ℕ) → i < j → j < t → get_or at i 0 < get_or at j 0

-- the positions of the first k lost places, in order, of marks that start at position i; 0 after the last
unfoldable pub first_lost : ℕ → ℕ → List ℕ → List ℕ
first_lost k i [] = replicate k 0
first_lost k i (m ∷ marks) = cond (eqb m 1) (take k (i ∷ first_lost (k - 1) (suc i) marks)) (first_lost k (suc i) marks)

-- the number of lost places, and the positions of the first four; these are all of them if they are at most four
pub record FoundLost (marks at : List ℕ) (count : ℕ) : Type 0 where
  pub all : count ≡ lost_in (length marks) marks 0
  pub first : at ≡ first_lost 4 0 marks
  pub few : count ≤ 4 → Positions marks (length marks) at count
