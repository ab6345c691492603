-- The loop that looks for the lowest group whose own equations fail.
use Rattle.std.specs.Prelude.{◌≡◌, Bool, true, List, ℕ, ◌<◌, ◌≤◌, T, length}
use Rattle.code.specs.Edition.{Edition}
use Rattle.code.specs.Marks.{lost_in}
use Rattle.code.specs.Word.{is_local}
use Rattle.code_loops.specs.GroupTurn.{GroupTurn}

-- none of the first g groups is broken
pub record BrokenTurn (E : Edition) (m w c : ℕ) (word : List ℕ) (g : ℕ) : Type 0 where
  pub turn : GroupTurn E.limits m w c word g
  pub sound : (k : ℕ) → k < g → T (is_local E w c word k)

-- r is the test of a part's own equations, where it is within the limits
abbrev pub PartTested : Edition → ℕ → List ℕ → Bool → Type 0
PartTested E c part r = length part ≤ E.limits.width → c ≤ E.limits.checks → r ≡ is_local E (length part) c part 0

-- the same of a part that was filled with these marks, which passes over what its filling has made zero
abbrev pub FilledTested : Edition → ℕ → List ℕ → List ℕ → Bool → Type 0
FilledTested E c marks part r = (lost_in (length marks) marks 0 < c → PartTested E c part r) × (c ≤ lost_in (length marks) marks 0 → r ≡ true)
