-- Why the recovery finds the codeword. A few lost places, at most c in each group, are bound for the group's own equations; the others, at
-- most two, are free. A base word fills the bound places with the free ones at 0; for each free place a direction fills them with that place
-- at 1 and all else at 0. The codeword that agrees is the base plus each direction times its symbol at the free place, and those symbols
-- are the only ones for which the two sums across are zero.
use Rattle.std.specs.Prelude.{◌≡◌, true, false, List, ℕ, ◌*◌, ◌<◌, ◌≤◌, get_or}
use Rattle.code.specs.Edition.{Edition}
use Rattle.code.specs.Word.{local_sum, Symbols}
use Rattle.code.specs.Marks.{lost, lost_in, excess}

-- What the base and the directions owe.
pub record Frame (E : Edition) (m w c : ℕ) (marks bound word base : List ℕ) (x : ℕ) (f : ℕ → ℕ) (H : ℕ → List ℕ) : Type 0 where
  -- the word lent, the base and the directions are words of symbols
  pub word-symbols : Symbols E (m * w) word
  pub base-symbols : Symbols E (m * w) base
  -- at most c places of each group are bound, and only lost ones
  pub bound-few : (g : ℕ) → g < m → lost_in w bound g ≤ c
  pub bound-lost : (p : ℕ) → p < m * w → lost marks p ≡ false → lost bound p ≡ false
  -- the free places: lost and not bound, each once, and all of them where the excess is low
  pub free-less : (i : ℕ) → i < x → f i < m * w
  pub free-lost : (i : ℕ) → i < x → lost marks (f i) ≡ true
  pub free_bound : (i : ℕ) → i < x → lost bound (f i) ≡ false
  pub free-apart : (i l : ℕ) → i < x → l < x → f i ≡ f l → i ≡ l
  pub free_all : excess m w c marks ≤ 2 → (p : ℕ) → p < m * w → lost marks p ≡ true → lost bound p ≡ false → (i : ℕ) × (i < x) × (p ≡ f i)
  -- the base has the present symbols, 0 at the free places, and as many local sums zero as places are bound
  pub base-present : (p : ℕ) → p < m * w → lost marks p ≡ false → get_or base p 0 ≡ get_or word p 0
  pub base-free : (i : ℕ) → i < x → get_or base (f i) 0 ≡ 0
  pub base-local : (g : ℕ) → g < m → (e : ℕ) → e < lost_in w bound g → local_sum E w base g e ≡ 0
  -- a direction is 1 at its free place and 0 at every other place that is not bound, and all its local sums are zero
  pub way-own : (i : ℕ) → i < x → get_or (H i) (f i) 0 ≡ 1
  pub way-off : (i : ℕ) → i < x → (p : ℕ) → p < m * w → lost bound p ≡ false → ¬ (p ≡ f i) → get_or (H i) p 0 ≡ 0
  pub way-local : (i : ℕ) → i < x → (g : ℕ) → g < m → (e : ℕ) → e < c → local_sum E w (H i) g e ≡ 0
