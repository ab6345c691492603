-- When the present places determine a codeword: exactly where the excess is at most two.
use Rattle.std.specs.Prelude.{◌≡◌, List, [], ◌∷◌, ℕ, zero, suc, ◌*◌, ◌<◌}
use Rattle.code.specs.Edition.{Edition}
use Rattle.code.specs.Word.{local_sum, word_sum, Symbols, Codeword}
use Rattle.code.specs.Marks.{Agree}

-- The list of the values of f at 0, 1, .., n - 1.
unfoldable pub list_of : ℕ → (ℕ → ℕ) → List ℕ
list_of zero f = []
list_of (suc n) f = f 0 ∷ list_of n (λ i. f (suc i))

-- Two different words of m·w symbols that meet the local equations and two sums across, and agree at all present places.
pub record Ambiguous (E : Edition) (m w c : ℕ) (marks : List ℕ) (h₁ h₂ : ℕ → ℕ → ℕ) : Type 0 where
  pub x : List ℕ
  pub y : List ℕ
  pub x-symbols : Symbols E (m * w) x
  pub y-symbols : Symbols E (m * w) y
  pub x-local : (g : ℕ) → g < m → (e : ℕ) → e < c → local_sum E w x g e ≡ 0
  pub y-local : (g : ℕ) → g < m → (e : ℕ) → e < c → local_sum E w y g e ≡ 0
  pub x-first : word_sum E m w x h₁ ≡ 0
  pub y-first : word_sum E m w y h₁ ≡ 0
  pub x-second : word_sum E m w x h₂ ≡ 0
  pub y-second : word_sum E m w y h₂ ≡ 0
  pub agree : Agree (m * w) marks x y
  pub differ : ¬ (x ≡ y)

-- Two different codewords agree at every present place.
pub record Undetermined (E : Edition) (m w c : ℕ) (marks : List ℕ) : Type 0 where
  pub x : List ℕ
  pub y : List ℕ
  pub x-codeword : Codeword E m w c x
  pub y-codeword : Codeword E m w c y
  pub agree : Agree (m * w) marks x y
  pub differ : ¬ (x ≡ y)
