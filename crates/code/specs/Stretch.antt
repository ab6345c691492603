-- One group's stretch of a word or of marks, from g·w to (g+1)·w, and a list with another stretch put in its place.
use Rattle.std.specs.Prelude.{List, ◌++◌, ℕ, suc, ◌*◌, take, drop}

-- the stretch of group g
unfoldable pub stretch : ℕ → ℕ → List ℕ → List ℕ
stretch w g xs = take w (drop (g * w) xs)

-- the list with the stretch of group g replaced
unfoldable pub with_stretch : ℕ → ℕ → List ℕ → List ℕ → List ℕ
with_stretch w g xs part = take (g * w) xs ++ (part ++ drop (suc g * w) xs)
