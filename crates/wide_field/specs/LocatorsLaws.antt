-- Laws: The 256 locators of the sixteen-bit edition: each is a symbol of the small field, a^256 = a, and no two are the same.
use Rattle.std.specs.Prelude.{◌≡◌, refl, ℕ, ◌+◌, ◌-◌, ◌*◌, ◌<◌, ◌≤◌}
use Rattle.std.proofs.Common.{sym, ap, ◌∙◌, arith, lt-ltb, le-ltb, lit<}
use Rattle.std.proofs.Math.Decide.{dec_lt}
use Rattle.binary_field.specs.Product.{product}
use Rattle.binary_field.specs.ProductLaws.{zero-product, product-one}
use Rattle.binary_field.specs.Power.{power}
use Rattle.binary_field.specs.PowerLaws.{power-lt, power-add, power-mul, power-suc, power-swap}
use Rattle.binary_field.specs.ElementOrderLaws.{powers-differ}
use Rattle.wide_field.specs.SymbolsLaws.{at-257, order-locator}
use Rattle.wide_field.specs.Locators.{locator}

-- place j below 255 has 2^257 to the power j
pub locator-power : (j : ℕ) → j < 255 → locator j ≡ power 16 69643 5726 j
unfolding locator
locator-power j h = rw (lt-ltb j 255 h) (power-mul 16 69643 (lit< tt) 2 257 j ∙ ap (λ a. power 16 69643 a j) at-257)

-- and the last has 0
pub locator-last : (j : ℕ) → 255 ≤ j → locator j ≡ 0
unfolding locator
locator-last j h = rw (le-ltb j 255 h) refl

pub locator-lt : (j : ℕ) → locator j < 65536
unfolding locator
locator-lt j = elim (dec_lt j 255) [
  | yes h ↦ rw (lt-ltb j 255 h) (power-lt 16 69643 (lit< tt) 2 (257 * j))
  | no h ↦ rw (le-ltb j 255 (omega arith)) (lit< tt)
]

-- 2^257 to the power 256 is itself
next-is-own : power 16 69643 5726 256 ≡ 5726
next-is-own = power-suc 16 69643 5726 255 ∙ ap (product 16 69643 5726) order-locator.end ∙ product-one 16 69643 (lit< tt) 5726 (lit< tt)

-- "the small field 256": a^256 = a for each
pub locator-fixed : (j : ℕ) → power 16 69643 (locator j) 256 ≡ locator j
locator-fixed j = elim (dec_lt j 255) [
  | yes h ↦
      (ap (λ a. power 16 69643 a 256) (locator-power j h) ∙ power-swap 16 69643 (lit< tt) 5726 j 256 ∙ ap (λ a. power 16 69643 a j) next-is-own
      ∙ sym (locator-power j h))
  | no h ↦
      (let l = locator-last j (omega arith) in
      ap (λ a. power 16 69643 a 256) l ∙ power-suc 16 69643 0 255 ∙ zero-product 16 69643 (power 16 69643 0 255) ∙ sym l)
]

-- a power of 2^257 is not 0: else 1 would be
not-zero : (j : ℕ) → j < 255 → ¬ (power 16 69643 5726 j ≡ 0)
not-zero j h e =
    let back : 255 ≡ j + (255 - j) = omega arith in
    let z : ◌≡◌ {A = ℕ} 1 0 =
    sym order-locator.end ∙ ap (power 16 69643 5726) back ∙ power-add 16 69643 (lit< tt) 5726 j (255 - j)
    ∙ ap (λ a. product 16 69643 a (power 16 69643 5726 (255 - j))) e ∙ zero-product 16 69643 (power 16 69643 5726 (255 - j)) in
    omega arith

-- no two are the same
pub locators-apart : (s t : ℕ) → s < 256 → t < 256 → ¬ (s ≡ t) → ¬ (locator s ≡ locator t)
locators-apart s t hs ht n e = elim (dec_lt s 255) [
  | yes h ↦ (elim (dec_lt t 255) [
    | yes k ↦ n (powers-differ 16 69643 (lit< tt) 5726 255 order-locator s t h k (sym (locator-power s h) ∙ e ∙ locator-power t k))
    | no k ↦ not-zero s h (sym (locator-power s h) ∙ e ∙ locator-last t (omega arith))
  ])
  | no h ↦ (elim (dec_lt t 255) [
    | yes k ↦ not-zero t k (sym (locator-power t k) ∙ sym e ∙ locator-last s (omega arith))
    | no k ↦ n (omega arith)
  ])
]
