-- Laws: The inverse of a symbol by its norm: the inverse of a is a^256 times the inverse of a^257, which is an element of the small field.
use Rattle.std.specs.Prelude.{◌≡◌, refl, Bool, ◌&&◌, List, [], ◌∷◌, ℕ, ◌+◌, ◌/◌, ◌%◌, ◌^◌, ◌≤◌, ◌<◌, T, eqb, length, get_or, drop}
use Rattle.std.proofs.Common.{sym, ap, ◌∙◌, mod-eq_of_lt, lit<, eqb→eq, drop_of_length-le, drop-cons}
use Rattle.std.proofs.Math.Numerals.{add-one}
use Rattle.std.proofs.Math.Decide.{ℕ_discrete}
use Rattle.std.proofs.Math.Pow.{pow-lt}
use Rattle.counting.specs.Test.{all_below}
use Rattle.counting.specs.TestLaws.{and_l, and_r, all-at}
use Rattle.binary_field.specs.Xor.{◌⊕◌, masked}
use Rattle.binary_field.specs.XorLaws.{⊕-assoc, ⊕-zero-l, ⊕-zero-r, ⊕-self, ⊕-swap, ⊕-cancel}
use Rattle.binary_field.specs.Product.{double, bit_sum, product}
use Rattle.binary_field.specs.ProductLaws.{product_lt, product-comm, product-assoc, product-one, one_product, zero-product}
use Rattle.binary_field.specs.Power.{power, squares}
use Rattle.binary_field.specs.PowerLaws.{power-lt, power-suc, power-mul, power-squares, product-power, frobenius}
use Rattle.binary_field.specs.Inverse.{linear_map, inverse}
use Rattle.binary_field.specs.AdditiveLaws.{map-add, agree}
use Rattle.binary_field.specs.InverseLaws.{inverse-lt, power_size, product-inverse, no-zero-divisors}
use Rattle.wide_field.specs.Symbols.{halving}
use Rattle.wide_field.specs.SymbolsLaws.{is_field_lem}
use Rattle.wide_solve.specs.Small.{digits, basis, IsSmall, inverse_row}
use Rattle.wide_solve.specs.SmallLaws.{digits-add, small-inverse}
use Rattle.wide_solve.specs.Norm.{conjugate_row}

-- ---- the two tests, at 1, 2, 4, ..
-- the values of a linear map that takes a^256 + a to a less the small element of its digits
section : List ℕ
section = 16771 ∷ 4386 ∷ 27091 ∷ 22705 ∷ 3612 ∷ 64503 ∷ 25543 ∷ 30703 ∷ []

conjugate_right : ℕ → Bool
conjugate_right i = eqb (linear_map conjugate_row (2 ^ i)) (squares 16 69643 8 (2 ^ i))

section_right : ℕ → Bool
section_right i = eqb (linear_map section (digits (linear_map conjugate_row (2 ^ i) ⊕ 2 ^ i))) (2 ^ i ⊕ linear_map basis (digits (2 ^ i)))

norm-rule : T (all_below 16 conjugate_right && all_below 16 section_right)
unfolding conjugate_right section_right section conjugate_row basis digits linear_map squares product bit_sum double masked ◌⊕◌
norm-rule = tt

-- ---- the 256th power is linear
zero-power : power 16 69643 0 256 ≡ 0
zero-power = power-suc 16 69643 0 255 ∙ zero-product 16 69643 (power 16 69643 0 255)

section-zero : linear_map section (digits 0) ≡ 0
unfolding linear_map section digits masked ◌⊕◌
section-zero = refl

pub conjugate-is : (a : ℕ) → a < 65536 → linear_map conjugate_row a ≡ power 16 69643 a 256
unfolding conjugate_right
conjugate-is =
    agree 16 (linear_map conjugate_row) (λ a. power 16 69643 a 256) (map-add conjugate_row) (λ a b. frobenius 16 69643 (lit< tt) a b 8)
    (λ i h. eqb→eq (linear_map conjugate_row (2 ^ i)) (squares 16 69643 8 (2 ^ i)) (all-at 16 conjugate_right (and_l (all_below 16 conjugate_right) _ norm-rule) i h)
    ∙ sym (power-squares 16 69643 (lit< tt) (2 ^ i) 8 (pow-lt h)))

-- what is its own 256th power is an element of the small field
pub fixed-small : (a : ℕ) → a < 65536 → power 16 69643 a 256 ≡ a → IsSmall a
unfolding IsSmall section_right
fixed-small a h e =
    let own : linear_map section (digits (linear_map conjugate_row a ⊕ a)) ≡ a ⊕ linear_map basis (digits a) =
    agree 16 (λ x. linear_map section (digits (linear_map conjugate_row x ⊕ x))) (λ x. x ⊕ linear_map basis (digits x))
    (λ x y.
    ap (λ z. linear_map section (digits z)) (ap (λ z. z ⊕ (x ⊕ y)) (map-add conjugate_row x y) ∙ ⊕-swap (linear_map conjugate_row x) (linear_map conjugate_row y) x y)
    ∙ ap (linear_map section) (digits-add (linear_map conjugate_row x ⊕ x) (linear_map conjugate_row y ⊕ y))
    ∙ map-add section (digits (linear_map conjugate_row x ⊕ x)) (digits (linear_map conjugate_row y ⊕ y)))
    (λ x y.
    ap (λ z. (x ⊕ y) ⊕ z) (ap (linear_map basis) (digits-add x y) ∙ map-add basis (digits x) (digits y))
    ∙ ⊕-swap x y (linear_map basis (digits x)) (linear_map basis (digits y)))
    (λ i l. eqb→eq (linear_map section (digits (linear_map conjugate_row (2 ^ i) ⊕ 2 ^ i))) (2 ^ i ⊕ linear_map basis (digits (2 ^ i)))
    (all-at 16 section_right (and_r (all_below 16 conjugate_right) (all_below 16 section_right) norm-rule) i l))
    a h in
    sym (⊕-cancel (sym own ∙ ap (λ z. linear_map section (digits (z ⊕ a))) (conjugate-is a h ∙ e)
    ∙ ap (λ z. linear_map section (digits z)) (⊕-self a) ∙ section-zero))

-- ---- the inverse
inverse-zero : inverse 16 69643 0 ≡ 0
unfolding inverse
inverse-zero = power-suc 16 69643 0 65533 ∙ zero-product 16 69643 (power 16 69643 0 65533)

inverse-only : (a b : ℕ) → a < 65536 → b < 65536 → (a ≡ 0 → ⊥) → product 16 69643 a b ≡ 1 → b ≡ inverse 16 69643 a
inverse-only a b ha hb ne e =
    sym (one_product 16 69643 (lit< tt) b ∙ mod-eq_of_lt hb)
    ∙ ap (λ x. product 16 69643 x b) (sym (product-inverse 16 69643 (lit< tt) halving is_field_lem a ha ne) ∙ product-comm 16 69643 a (inverse 16 69643 a))
    ∙ product-assoc 16 69643 (inverse 16 69643 a) a b ∙ ap (product 16 69643 (inverse 16 69643 a)) e
    ∙ product-one 16 69643 (lit< tt) (inverse 16 69643 a) (inverse-lt 16 69643 (lit< tt) a)

module _ (a : ℕ) (h : a < 65536) where
  norm-fixed : power 16 69643 (product 16 69643 a (power 16 69643 a 256)) 256 ≡ product 16 69643 a (power 16 69643 a 256)
  norm-fixed =
      product-power 16 69643 (lit< tt) a (power 16 69643 a 256) 256
      ∙ ap (product 16 69643 (power 16 69643 a 256))
      (sym (power-mul 16 69643 (lit< tt) a 256 256) ∙ power_size 16 69643 (lit< tt) halving is_field_lem a h)
      ∙ product-comm 16 69643 (power 16 69643 a 256) a

  -- the 256th power times the inverse of the norm
  pub inverse-by-norm : product 16 69643 (power 16 69643 a 256) (get_or inverse_row (digits (product 16 69643 a (power 16 69643 a 256))) 0)
      ≡ inverse 16 69643 a
  inverse-by-norm = go (ℕ_discrete a 0)
    where
      s : ℕ
      s = power 16 69643 a 256

      t : ℕ
      t = get_or inverse_row (digits (product 16 69643 a (power 16 69643 a 256))) 0

      nonzero : (a ≡ 0 → ⊥) → power 16 69643 a 256 ≡ 0 → ⊥
      nonzero n e = n (sym (power_size 16 69643 (lit< tt) halving is_field_lem a h) ∙ power-mul 16 69643 (lit< tt) a 256 256
          ∙ ap (λ x. power 16 69643 x 256) e ∙ zero-power)

      go : Dec (a ≡ 0) → product 16 69643 (power 16 69643 a 256) (get_or inverse_row (digits (product 16 69643 a (power 16 69643 a 256))) 0) ≡ inverse 16 69643 a
      go (yes e) =
          ap (λ x. product 16 69643 x t) (ap (λ x. power 16 69643 x 256) e ∙ zero-power) ∙ zero-product 16 69643 t
          ∙ sym (ap (inverse 16 69643) e ∙ inverse-zero)
      go (no n) =
          inverse-only a (product 16 69643 s t) h (product_lt 16 69643 s t) n
          (sym (product-assoc 16 69643 a s t)
          ∙ small-inverse (product 16 69643 a s) (fixed-small (product 16 69643 a s) (product_lt 16 69643 a s) norm-fixed)
          (λ e. nonzero n (no-zero-divisors 16 69643 (lit< tt) halving is_field_lem a s h (power-lt 16 69643 (lit< tt) a 256) n e)))

-- ---- one turn of the loop over the bits, and its end
module _ (ts : List ℕ) (i : ℕ) (l : i < length ts) (r rest : ℕ) where
  pub map-set : rest % 2 ≡ 1 → (r ⊕ get_or ts i 0) ⊕ linear_map (drop (i + 1) ts) (rest / 2) ≡ r ⊕ linear_map (drop i ts) rest
  unfolding linear_map masked
  map-set e = rw (drop-cons ts i 0 l, add-one i, e, ⊕-assoc)

  pub map-clear : rest % 2 ≡ 0 → r ⊕ linear_map (drop (i + 1) ts) (rest / 2) ≡ r ⊕ linear_map (drop i ts) rest
  unfolding linear_map masked
  map-clear e = rw (drop-cons ts i 0 l, add-one i, e, ⊕-zero-l)

pub map-end : (ts : List ℕ) (i r rest : ℕ) → length ts ≤ i → r ⊕ linear_map (drop i ts) rest ≡ r
unfolding linear_map
map-end ts i r rest h = rw (drop_of_length-le ts h) (⊕-zero-r r)

pub row-size : length conjugate_row ≡ 16
unfolding conjugate_row
row-size = refl
