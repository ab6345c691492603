-- A group's places: first those that carry data, then its checks.
use Rattle.std.specs.Prelude.{Bool, cond, List, ◌++◌, ℕ, ◌+◌, ◌-◌, ◌*◌, ◌/◌, eqb, length, drop}
use Rattle.code_services.specs.Places.{check_marks}

-- how many places of a group carry data, in the last group and in another
unfoldable pub data_of : ℕ → ℕ → Bool → ℕ
data_of w c last = cond last (w - (c + 2)) (w - c)

-- and of group g
abbrev pub data_in : ℕ → ℕ → ℕ → ℕ → ℕ
data_in m w c g = data_of w c (eqb (g + 1) m)

-- marks with the check places of all whole groups of w places lost; what comes after these groups is as it was
unfoldable pub with_checks : ℕ → ℕ → List ℕ → List ℕ
with_checks w c marks = check_marks (length marks / w) w c ++ drop (length marks / w * w) marks
