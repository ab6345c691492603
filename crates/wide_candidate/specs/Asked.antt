-- What the steps towards the candidate ask of what they are lent, with a good shape.
use Rattle.std.specs.Prelude.{◌≡◌, List, ℕ, ◌*◌, ◌<◌, ◌≤◌, length, replicate}
use Rattle.code.specs.Limits.{GoodIn}
use Rattle.code.specs.Marks.{lost_in}
use Rattle.code_engine.specs.BoundGroups.{BoundAll}
use Rattle.code_engine.specs.Mended.{BoundFew}
use Rattle.wide_shape.specs.Edition.{wide_limits}
use Rattle.wide_across.specs.declared.Sums.{Sums}
use Rattle.wide_across.specs.Across.{wide_across}

-- at most c bound places in each group
abbrev pub FillAsked : ℕ → ℕ → ℕ → List ℕ → List ℕ → Type 0
FillAsked m w c bound base =
    GoodIn wide_limits m w c × ((length base ≡ m * w) × ((length bound ≡ m * w) × ((g : ℕ) → g < m → lost_in w bound g ≤ c)))

-- the one free place p, the sums across of the word, and a row of zeros
abbrev pub OneAsked : ℕ → ℕ → ℕ → ℕ → List ℕ → List ℕ → Sums → List ℕ → Type 0
OneAsked m w c p bound word s h =
    GoodIn wide_limits m w c × ((length word ≡ m * w)
    × ((p < m * w) × (BoundFew m w c p bound × ((s ≡ wide_across m w c word) × (h ≡ replicate w 0)))))

-- two free places p and q, and two rows of zeros
abbrev pub TwoAsked : ℕ → ℕ → ℕ → ℕ → ℕ → List ℕ → List ℕ → Sums → List ℕ → List ℕ → Type 0
TwoAsked m w c p q bound word s h k =
    GoodIn wide_limits m w c × ((length word ≡ m * w) × (((p < m * w) × (q < m * w) × (p ≡ q → ⊥))
    × (BoundFew m w c p bound × (BoundFew m w c q bound × ((s ≡ wide_across m w c word) × ((h ≡ replicate w 0) × (k ≡ replicate w 0)))))))

-- the marks, and those that the groups keep
abbrev pub MendAsked : ℕ → ℕ → ℕ → List ℕ → List ℕ → List ℕ → Type 0
MendAsked m w c marks bound word =
    GoodIn wide_limits m w c × ((length word ≡ m * w) × ((length marks ≡ m * w) × BoundAll m w c marks bound))
