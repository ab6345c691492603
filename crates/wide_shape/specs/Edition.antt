-- The sixteen-bit edition for wide racks.
use Rattle.code.specs.Limits.{Limits}
use Rattle.wide_field.specs.Locators.{locator}
use Rattle.code.specs.Edition.{Edition}

-- "m up to 255, w up to 256, c up to 4, n at most 4,096"
abbrev pub wide_limits : Limits
wide_limits = record { groups = 255; checks = 4; width = 256; places = 4096 }

-- "Symbols are numbers of 16 bits, the field has 65,536 elements with x^16+x^12+x^3+x+1, the small field 256"
abbrev pub wide_edition : Edition
wide_edition = record { bits = 16; poly = 69643; small = 256; locator = locator; limits = wide_limits }
