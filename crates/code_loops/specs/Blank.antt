-- The loop that writes a word, of symbols of any type, with z in its lost places.
use Rattle.std.specs.Prelude.{◌≡◌, true, false, List, ℕ, ◌≤◌, ◌<◌, length, get_or}
use Rattle.code.specs.Marks.{lost}

-- the symbol b at place q
pub record BlankAt {A : Type 0} (z : A) (marks : List ℕ) (word : List A) (q : ℕ) (b : A) : Type 0 where
  pub present : lost marks q ≡ false → b ≡ get_or word q z
  pub zero : lost marks q ≡ true → b ≡ z

-- the first p places are written
pub record BlankTurn {A : Type 0} (z : A) (marks : List ℕ) (word base : List A) (p : ℕ) : Type 0 where
  pub done : p ≤ length word
  pub size : length base ≡ length word
  pub blank : (q : ℕ) → q < p → BlankAt z marks word q (get_or base q z)
