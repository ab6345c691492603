-- Lists as index sets: members, distinct images, the numbers below n, what a test keeps, and a list of lists as one.
use Rattle.std.specs.Prelude.{◌≡◌, Bool, cond, ℕ, zero, suc, ◌+◌}
use mathlib.Core.List.{List, [], ◌∷◌, Memᴰ}

infix 50 ◌∈◌
-- a is a member of the list.
abbrev pub ◌∈◌ : {A : Type 0} → A → List A → Type 0
a ∈ l = Memᴰ a l

-- Q holds of every member.
abbrev pub All : {A : Type 0} → List A → (A → Type 0) → Type 0
All {A} l Q = (a : A) → a ∈ l → Q a

-- No two members have one image.
abbrev pub Distinct : {A B : Type 0} → (A → B) → List A → Type 0
Distinct f [] = Unit {0}
Distinct f (a ∷ l) = All l (λ b. ¬ (f b ≡ f a)) × Distinct f l

-- The numbers below n, the largest first.
abbrev pub below : ℕ → List ℕ
below zero = []
below (suc n) = n ∷ below n

-- The sum of a number for each member.
abbrev pub total : {A : Type 0} → (A → ℕ) → List A → ℕ
total f [] = 0
total f (a ∷ l) = f a + total f l

module _ {A : Type 0} (test : A → Bool) where
  -- The members that the test keeps.
  abbrev pub filter : List A → List A
  filter [] = []
  filter (a ∷ l) = cond (test a) (a ∷ filter l) (filter l)
