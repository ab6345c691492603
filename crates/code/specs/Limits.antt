-- How large a shape may be in an edition, its figures and its refusals.
use Rattle.std.specs.Prelude.{cond, not, ◌||◌, ℕ, ◌+◌, ◌-◌, ◌*◌, ◌≤◌, eqb, ltb}
use Rattle.code.specs.Refusals.{refuse, ◌or_else◌}

-- How large a shape may be in an edition of the code: its groups, its local checks, its width and its places.
pub record Limits : Type 0 where
  pub groups : ℕ
  pub checks : ℕ
  pub width : ℕ
  pub places : ℕ

-- "A word has n = m·w bytes"
abbrev pub place_count : ℕ → ℕ → ℕ
place_count m w = m * w

-- "k = m(w−c)−2", or 0 where that is negative
abbrev pub data_count : ℕ → ℕ → ℕ → ℕ
data_count m w c = m * (w - c) - 2

-- The sure count: "the largest number such that every pattern of that many losses or fewer is judged 0. That is 2c+2 if w = c+2 and c+2 otherwise."
unfoldable pub sure_count : ℕ → ℕ → ℕ
sure_count w c = cond (eqb w (c + 2)) (2 * c + 2) (c + 2)

-- a good shape within limits: "k = m(w−c)−2 at least 1" besides
pub record GoodIn (L : Limits) (m w c : ℕ) : Type 0 where
  pub some : 1 ≤ m
  pub few : m ≤ L.groups
  pub checked : 1 ≤ c
  pub few-checks : c ≤ L.checks
  pub wide : c + 2 ≤ w
  pub narrow : w ≤ L.width
  pub room : 3 ≤ m * (w - c)
  pub fits : m * w ≤ L.places

-- 1: "m is 0 or above 15"; 2: "c is 0 or above 4"; 3: "w is below c+2 or above 16"; 4: "k is 0"; 26: n is above the places of the edition,
-- which no shape of bytes can meet
unfoldable pub shape_refusal_in : Limits → ℕ → ℕ → ℕ → ℕ
shape_refusal_in L m w c =
    refuse 1 (eqb m 0 || ltb L.groups m)
    or_else refuse 2 (eqb c 0 || ltb L.checks c)
    or_else refuse 3 (ltb w (c + 2) || ltb L.width w)
    or_else refuse 4 (eqb (data_count m w c) 0)
    or_else refuse 26 (ltb L.places (m * w))

-- 29: "retired shape". "Four local checks go out of sale"; a shape with them is still good, and "old words must stay readable".
unfoldable pub retired_refusal : ℕ → ℕ
retired_refusal c = refuse 29 (eqb c 4)

-- What is still sold: the good shapes of "c up to 3".
pub record SoldIn (L : Limits) (m w c : ℕ) : Type 0 where
  pub good : GoodIn L m w c
  pub few-checks : c ≤ 3

-- "29 retired shape, straight after 4 and 26": of a service that makes something new of a shape
unfoldable pub sale_refusal_in : Limits → ℕ → ℕ → ℕ → ℕ
sale_refusal_in L m w c = shape_refusal_in L m w c or_else retired_refusal c

-- 5: "a lent length is not k or n as the service needs", after 1 to 4 and 26; of a service that is lent a word or marks
unfoldable pub word_refusal_in : Limits → ℕ → ℕ → ℕ → ℕ → ℕ
word_refusal_in L m w c lent = shape_refusal_in L m w c or_else refuse 5 (not (eqb lent (place_count m w)))

-- and of one that is lent a word and data
unfoldable pub buffer_refusal_in : Limits → ℕ → ℕ → ℕ → ℕ → ℕ → ℕ
buffer_refusal_in L m w c word bytes = word_refusal_in L m w c word or_else refuse 5 (not (eqb bytes (data_count m w c)))
