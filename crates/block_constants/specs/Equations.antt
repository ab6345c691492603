-- The six equations of a group: the local sums of powers 0 to 3, and the two sums across by their coefficients.
use Rattle.std.specs.Prelude.{List, ℕ, zero, suc, get_or}
use Rattle.code.specs.Edition.{raised}
use Rattle.byte_edition.specs.Edition.{byte_edition}

-- the coefficient of place j in equation i
unfoldable pub equation_of : List ℕ → List ℕ → ℕ → ℕ → ℕ
equation_of first second zero j = raised byte_edition (byte_edition.locator j) 0
equation_of first second (suc zero) j = raised byte_edition (byte_edition.locator j) 1
equation_of first second (suc (suc zero)) j = raised byte_edition (byte_edition.locator j) 2
equation_of first second (suc (suc (suc zero))) j = raised byte_edition (byte_edition.locator j) 3
equation_of first second (suc (suc (suc (suc zero)))) j = get_or first j 0
equation_of first second (suc (suc (suc (suc (suc i))))) j = get_or second j 0
