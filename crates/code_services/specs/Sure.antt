-- Losses counted over the whole word against the excess, which is counted by groups.
use Rattle.std.specs.Prelude.{List, [], ◌∷◌, ℕ, zero, suc}

-- the first r of n places lost
abbrev pub first_lost : ℕ → ℕ → List ℕ
first_lost zero r = []
first_lost (suc n) zero = 0 ∷ first_lost n zero
first_lost (suc n) (suc r) = 1 ∷ first_lost n r
