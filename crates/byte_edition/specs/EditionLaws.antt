-- The edition of bytes is sound.
use Rattle.std.specs.Prelude.{refl, ℕ, ◌≤◌}
use Rattle.std.proofs.Common.{arith, lit<}
use Rattle.gf256.specs.Bytes.{halving}
use Rattle.gf256.specs.BytesLaws.{is_field_lem, order-two}
use Rattle.gf256.specs.LocatorsLaws.{locator-lt, locators-apart, locator-fixed}
use Rattle.code.specs.Edition.{Sound}
use Rattle.byte_edition.specs.Edition.{byte_edition}

-- all that the theorems ask of it
unfoldable pub bytes-sound : Sound byte_edition
bytes-sound = record {
  r = 15;
  small_is = refl;
  facts = record {
    pos = lit< tt;
    values = halving;
    tested = is_field_lem;
    half_digits = 4;
    two-lt = lit< tt;
    large = lit< tt;
    size = refl;
    square = refl;
    primitive = order-two;
  };
  locator-lt = locator-lt;
  locator-apart = locators-apart;
  locator-fixed = locator-fixed;
  groups-few = omega arith;
  width_narrow = omega arith;
}

-- fifteen groups are not too many
pub bytes-few : {m : ℕ} → m ≤ 15 → m ≤ bytes-sound.r
unfolding bytes-sound
bytes-few h = h
