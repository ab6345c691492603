-- The 256 locators of the sixteen-bit edition.
use Rattle.std.specs.Prelude.{cond, ℕ, ◌*◌, ltb}
use Rattle.binary_field.specs.Power.{power}

-- "locators 2^(257j) for j from 0 to 254, then 0"
unfoldable pub locator : ℕ → ℕ
locator j = cond (ltb j 255) (power 16 69643 2 (257 * j)) 0
