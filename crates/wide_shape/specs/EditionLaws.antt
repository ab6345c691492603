-- The sixteen-bit edition is sound.
use Rattle.std.specs.Prelude.{refl}
use Rattle.std.proofs.Common.{arith, lit<}
use Rattle.wide_field.specs.Symbols.{halving}
use Rattle.wide_field.specs.SymbolsLaws.{is_field_lem, order-two}
use Rattle.wide_field.specs.LocatorsLaws.{locator-lt, locators-apart, locator-fixed}
use Rattle.code.specs.Edition.{Sound}
use Rattle.wide_shape.specs.Edition.{wide_edition}

-- all that the theorems ask of it
unfoldable pub wide-sound : Sound wide_edition
wide-sound = record {
  r = 255;
  small_is = refl;
  facts = record {
    pos = lit< tt;
    values = halving;
    tested = is_field_lem;
    half_digits = 8;
    two-lt = lit< tt;
    large = lit< tt;
    size = refl;
    square = refl;
    primitive = order-two;
  };
  locator-lt = λ j _. locator-lt j;
  locator-apart = locators-apart;
  locator-fixed = λ j _. locator-fixed j;
  groups-few = omega arith;
  width_narrow = omega arith;
}
