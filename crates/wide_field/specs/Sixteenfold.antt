-- Sixteen times a symbol.
use Rattle.std.specs.Prelude.{ℕ}
use Rattle.binary_field.specs.Product.{double}

abbrev pub sixteenfold : ℕ → ℕ
sixteenfold a = double 16 69643 (double 16 69643 (double 16 69643 (double 16 69643 a)))
