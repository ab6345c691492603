-- The product of two polynomials over two elements before its reduction, and the reduction modulo 69643, x^16 + x^12 + x^3 + x + 1.
use Rattle.std.specs.Prelude.{ℕ, ◌*◌, ◌/◌, ◌%◌}
use Rattle.binary_field.specs.Xor.{◌⊕◌}
use Rattle.binary_field.specs.Product.{product}

-- the carry-less product, of which the 32 lowest digits are kept: two factors of 16 digits have no more
abbrev pub carry_less : ℕ → ℕ → ℕ
carry_less a b = product 32 0 a b

-- the quotient by 69643 of a number of at most 31 digits that has the digits h from 16 on
unfoldable pub quotient : ℕ → ℕ
quotient h = h ⊕ (h / 16 ⊕ (h / 256 ⊕ (h / 4096 ⊕ h / 8192)))

-- 69643 times q, without the term of x^16
unfoldable pub multiple : ℕ → ℕ
multiple q = q ⊕ (q * 2 ⊕ (q * 8 ⊕ q * 4096))

-- a number of at most 31 digits modulo 69643
unfoldable pub reduced : ℕ → ℕ
reduced p = (p ⊕ multiple (quotient (p / 65536))) % 65536
