-- The loop that fills the groups of a word, one after the other.
use Rattle.std.specs.Prelude.{◌≡◌, List, ℕ, ◌*◌, ◌<◌, ◌≤◌, length}
use Rattle.code.specs.Edition.{Edition}
use Rattle.code.specs.Marks.{lost_in}
use Rattle.code_engine.specs.CandidateSteps.{GroupsFilledIn}
use Rattle.code_loops.specs.GroupTurn.{GroupTurn}

-- the first g groups are filled
pub record FillTurn (E : Edition) (m w c : ℕ) (bound before base : List ℕ) (g : ℕ) : Type 0 where
  pub turn : GroupTurn E.limits m w c base g
  pub marked : length bound ≡ m * w
  pub few : (i : ℕ) → i < m → lost_in w bound i ≤ c
  pub filled : GroupsFilledIn E g w bound before base
