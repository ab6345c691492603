-- "They form the subfield of 16 elements", and in the sixteen-bit edition of 256: over the edition.
use Rattle.std.specs.Prelude.{◌≡◌, ℕ, ◌^◌, ◌<◌}
use Rattle.binary_field.specs.Xor.{◌⊕◌}
use Rattle.binary_field.specs.Inverse.{inverse}
use Rattle.code.specs.Edition.{Edition, times, raised}

-- a is the locator of a place
pub record IsLocator (E : Edition) (a : ℕ) : Type 0 where
  pub place : ℕ
  pub inside : place < E.small
  pub is : E.locator place ≡ a

-- The locators are as many as the small field has elements; they are just the symbols a with a^q = a; and sums, products and inverses of
-- locators are locators, where a locator that is not 0 times its inverse is 1.
pub record LocatorsSubfield (E : Edition) : Type 0 where
  pub apart : (i j : ℕ) → i < E.small → j < E.small → ¬ (i ≡ j) → ¬ (E.locator i ≡ E.locator j)
  pub symbol : (j : ℕ) → j < E.small → E.locator j < 2 ^ E.bits
  pub fixed : (j : ℕ) → j < E.small → raised E (E.locator j) E.small ≡ E.locator j
  pub only : (a : ℕ) → a < 2 ^ E.bits → raised E a E.small ≡ a → IsLocator E a
  pub zero : IsLocator E 0
  pub one : IsLocator E 1
  pub sum : (i j : ℕ) → i < E.small → j < E.small → IsLocator E (E.locator i ⊕ E.locator j)
  pub product : (i j : ℕ) → i < E.small → j < E.small → IsLocator E (times E (E.locator i) (E.locator j))
  pub inverted : (j : ℕ) → j < E.small → ¬ (E.locator j ≡ 0) → times E (E.locator j) (inverse E.bits E.poly (E.locator j)) ≡ 1
  pub inverse : (j : ℕ) → j < E.small → IsLocator E (inverse E.bits E.poly (E.locator j))
