-- The edition of bytes.
use Rattle.std.specs.Prelude.{get_or}
use Rattle.gf256.specs.Locators.{locators}
use Rattle.shape.specs.Shapes.{byte_limits}
use Rattle.code.specs.Edition.{Edition}

-- "The field of bytes" with its sixteen locators, and the limits of its shapes
abbrev pub byte_edition : Edition
byte_edition = record { bits = 8; poly = 285; small = 16; locator = λ j. get_or locators j 0; limits = byte_limits }
