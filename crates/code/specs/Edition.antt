-- An edition of the code: the width of its symbols, the field's polynomial, the size q of the small field, the locators, and how large a
-- shape may be. The edition of bytes stands in the crate byte_edition; a wider one is another value of the same record.
use Rattle.std.specs.Prelude.{◌≡◌, ℕ, suc, ◌<◌, ◌≤◌, ◌^◌}
use Rattle.binary_field.specs.Product.{product}
use Rattle.binary_field.specs.Power.{power}
use Rattle.binary_field.specs.Element.{Facts}
use Rattle.code.specs.Limits.{Limits}

-- the numbers that tell one edition from another
pub record Edition : Type 0 where
  -- binary digits of a symbol
  pub bits : ℕ
  -- the polynomial, as a number
  pub poly : ℕ
  -- elements of the small field, which holds the locators
  pub small : ℕ
  -- the locator of place j of a group
  pub locator : ℕ → ℕ
  -- how large a shape may be
  pub limits : Limits

-- the product and the powers of an edition
abbrev pub times : Edition → ℕ → ℕ → ℕ
times E = product E.bits E.poly

-- a symbol to a power
abbrev pub raised : Edition → ℕ → ℕ → ℕ
raised E = power E.bits E.poly

-- What the theorems ask of an edition: symbols form a field over the small one, 2 is primitive, the locators are different members of the
-- small field, and a shape has fewer groups than that field has elements and no more places in a group.
pub record Sound (E : Edition) : Type 0 where
  pub r : ℕ
  pub small_is : E.small ≡ suc r
  pub facts : Facts E.bits E.poly r
  pub locator-lt : (j : ℕ) → j < E.small → E.locator j < 2 ^ E.bits
  pub locator-apart : (i j : ℕ) → i < E.small → j < E.small → ¬ (i ≡ j) → ¬ (E.locator i ≡ E.locator j)
  pub locator-fixed : (j : ℕ) → j < E.small → raised E (E.locator j) E.small ≡ E.locator j
  pub groups-few : E.limits.groups ≤ r
  pub width_narrow : E.limits.width ≤ E.small
