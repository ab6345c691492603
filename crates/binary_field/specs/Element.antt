-- The numbers of k digits as the elements of a field of `algebra`: the value of an element is a number below 2 ^ k, sums and products
-- of elements are those of their values. With the order of 2 this is a tower over the small field of q = r + 1 elements, q · q = 2 ^ k.
use Rattle.std.specs.Prelude.{◌≡◌, List, ℕ, suc, ◌-◌, ◌*◌, ◌%◌, ◌^◌, ◌<◌, T, ltb}
use Rattle.std.proofs.Common.{mod-lt, lt→ltb, pow_pos}
use Rattle.binary_field.specs.Inverse.{is_field}
use Rattle.binary_field.specs.ElementOrder.{Order}

abbrev pub Element : ℕ → Type 0
Element k = (n : ℕ) × T (ltb n (2 ^ k))

abbrev pub element : (k n : ℕ) → n < 2 ^ k → Element k
element k n h = (n, lt→ltb n (2 ^ k) h)

-- the element of any number
abbrev pub reduced : (k : ℕ) → ℕ → Element k
reduced k n = element k (n % 2 ^ k) (mod-lt n (pow_pos k))

-- What makes the numbers of k digits a field over a small one of r + 1 elements: the two tests, and that 2 is primitive.
pub record Facts (k m r : ℕ) : Type 0 where
  pub pos : 0 < k
  pub values : List ℕ
  pub tested : T (is_field k m values)
  pub half_digits : ℕ
  pub two-lt : 2 < 2 ^ k
  pub large : 1 < r
  pub size : suc r ≡ 2 ^ half_digits
  pub square : r * suc (suc r) ≡ 2 ^ k - 1
  pub primitive : Order k m 2 (2 ^ k - 1)
