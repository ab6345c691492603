use Rattle.std.proofs.Common.{refl}
use Rattle.wide_field.specs.LocatorRow.{locator_row}
use Rattle.wide_field.proofs.locators.Goals as goal

pub returns : goal.returns
unfolding locator_row
returns c = refl
