-- What mending the free places owes, with the directions and the unknowns that were used.
use Rattle.std.specs.Prelude.{◌≡◌, false, List, ℕ, ◌*◌, ◌/◌, ◌%◌, ◌≤◌, ◌<◌, T, length, get_or}
use Rattle.binary_field.specs.Inverse.{inverse}
use Rattle.code.specs.Edition.{Edition, times}
use Rattle.code.specs.Word.{is_local, first_across, second_across}
use Rattle.code.specs.Marks.{lost, lost_in, excess}
use Rattle.code.specs.Recovery.{Agrees}
use Rattle.code.specs.Repair.{Satisfies}
use Rattle.code.specs.Stretch.{stretch}
use Rattle.code.specs.Combined.{combined}
use Rattle.code.specs.Lone.{lone}
use Rattle.code_engine.specs.FreePlaces.{FreePlaces}
use Rattle.code_engine.specs.CandidateSteps.{DirectionIn}
use Rattle.code.specs.Pair.{MetIn}

-- bound marks of a word's length, at most c in each group, c in that of place p, and not at p itself
pub record BoundFew (m w c p : ℕ) (bound : List ℕ) : Type 0 where
  pub size : length bound ≡ m * w
  pub few : (g : ℕ) → g < m → lost_in w bound g ≤ c
  pub full : lost_in w bound (p / w) ≡ c
  pub own : lost bound p ≡ false

-- one free place p: u times its direction h is added, and u is solved for by the first sum across
pub record MendedOneIn (E : Edition) (m w c p : ℕ) (bound before after : List ℕ) : Type 0 where
  pub h : List ℕ
  pub way : DirectionIn E w (p % w) (stretch w (p / w) bound) h
  pub u : ℕ
  pub solved : u ≡ times E (first_across E m w c before) (inverse E.bits E.poly (first_across E m w c (lone m w (p / w) h)))
  pub is : after ≡ combined E (m * w) before 1 (λ _. u) (λ _. lone m w (p / w) h)

-- two free places p and q: u times the one direction and v times the other, one after the other
pub record MendedTwoIn (E : Edition) (m w c p q : ℕ) (bound before after : List ℕ) : Type 0 where
  pub h₁ : List ℕ
  pub h₂ : List ℕ
  pub way₁ : DirectionIn E w (p % w) (stretch w (p / w) bound) h₁
  pub way₂ : DirectionIn E w (q % w) (stretch w (q / w) bound) h₂
  pub u : ℕ
  pub v : ℕ
  pub solved : MetIn E (first_across E m w c (lone m w (p / w) h₁)) (first_across E m w c (lone m w (q / w) h₂))
      (second_across E m w c (lone m w (p / w) h₁)) (second_across E m w c (lone m w (q / w) h₂))
      (first_across E m w c before) (second_across E m w c before) u v
  pub middle : List ℕ
  pub first : middle ≡ combined E (m * w) before 1 (λ _. u) (λ _. lone m w (p / w) h₁)
  pub second : after ≡ combined E (m * w) middle 1 (λ _. v) (λ _. lone m w (q / w) h₂)

-- what is mended, by the number of free places
pub data MendedIn (E : Edition) (m w c : ℕ) (marks bound before after : List ℕ) : Type 0 where
  none : {p q : ℕ} → FreePlaces marks bound 0 p q → after ≡ before → MendedIn E m w c marks bound before after
  one : {p q : ℕ} → FreePlaces marks bound 1 p q → MendedOneIn E m w c p bound before after → MendedIn E m w c marks bound before after
  two : {p q : ℕ} → FreePlaces marks bound 2 p q → MendedTwoIn E m w c p q bound before after → MendedIn E m w c marks bound before after

-- What the candidate is: the present symbols of the word and, where the excess is at most two, the only codeword that can agree with them;
-- a group that some filling satisfies is satisfied.
pub record IsCandidateIn (E : Edition) (m w c : ℕ) (marks word x : List ℕ) : Type 0 where
  pub size : length x ≡ m * w
  pub present : (p : ℕ) → p < m * w → lost marks p ≡ false → get_or x p 0 ≡ get_or word p 0
  pub only : excess m w c marks ≤ 2 → (y : List ℕ) → Agrees E m w c marks word y → x ≡ y
  pub satisfied : (g : ℕ) → g < m → (y : List ℕ) → Satisfies E w c (stretch w g marks) (stretch w g word) y → T (is_local E w c x g)
