-- Groups whose excess is at most two in all: what is shown of one group and of two holds of all of them.
use Rattle.std.specs.Prelude.{◌≡◌, List, ℕ}
use Rattle.algebra.specs.Field.{Field}
use Rattle.algebra.specs.Lists.{◌∈◌, All}

-- What is shown of the groups of the list l: Z, that nothing is left in a group, from its excess and from its shares A and B in
-- the two sums across.
pub record Cases (F : Field) {I : Type 0} (Z : I → Type 0) (exc : I → ℕ) (A B : I → F.K) (l : List I) : Type 0 where
  pub zero-A : All l (λ i. Z i → A i ≡ F.𝟘)
  pub zero-B : All l (λ i. Z i → B i ≡ F.𝟘)
  pub case-0 : All l (λ i. exc i ≡ 0 → Z i)
  pub case-1 : All l (λ i. exc i ≡ 1 → A i ≡ F.𝟘 → Z i)
  pub case-2 : All l (λ i. exc i ≡ 2 → A i ≡ F.𝟘 → B i ≡ F.𝟘 → Z i)
  pub case-1-1 : (i j : I) → i ∈ l → j ∈ l → ¬ (i ≡ j) → exc i ≡ 1 → exc j ≡ 1
      → F.add (A i) (A j) ≡ F.𝟘 → F.add (B i) (B j) ≡ F.𝟘 → Z i
