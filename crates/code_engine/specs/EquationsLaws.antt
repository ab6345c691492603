-- The equations for the symbols of t lost places, and that the powers of their locators are independent.
use Rattle.std.specs.Prelude.{◌≡◌, List, ℕ, ◌<◌, length, get_or}
use Rattle.std.proofs.Common.{sym, ◌∙◌}
use Rattle.std.proofs.Math.Path.{ap}
use Rattle.std.proofs.Math.Nat.{mod-eq_of_lt}
use Rattle.algebra.specs.Lists.{below}
use Rattle.algebra.specs.ListsLaws.{length-below, in-below, distinct-below}
use Rattle.algebra.specs.Vandermonde.{psum}
use Rattle.algebra.specs.VandermondeLaws.{vandermonde}
use Rattle.binary_field.specs.Product.{product}
use Rattle.binary_field.specs.ProductLaws.{product-comm, product-low-l}
use Rattle.binary_field.specs.PowerLaws.{power-low}
use Rattle.binary_field.specs.Sum.{sum_below}
use Rattle.binary_field.specs.SumLaws.{sum-ext}
use Rattle.binary_field.specs.Element.{Element, reduced}
use Rattle.binary_field.specs.ElementLaws.{field, same-value, pow-value, sum-value}
use Rattle.code.specs.Edition.{Edition, Sound, raised}
use Rattle.code.specs.Word.{local_sum}
use Rattle.code_engine.specs.Elimination.{row, entry}
use Rattle.code_engine.specs.Kernel.{TrivialKernel}

-- the equation e of t positions: the powers of their locators, and on the right side the syndrome of the rest
pub record EquationIn (E : Edition) (part at : List ℕ) (t e : ℕ) (r : List ℕ) : Type 0 where
  pub left : (i : ℕ) → i < t → get_or r i 0 ≡ raised E (E.locator (get_or at i 0)) e
  pub right : get_or r 4 0 ≡ local_sum E (length part) part 0 e

-- the first t of them
abbrev pub EquationsIn : Edition → List ℕ → List ℕ → ℕ → List (List ℕ) → Type 0
EquationsIn E part at t M = (e : ℕ) → e < t → EquationIn E part at t e (row M e)

-- any t columns of t rows of powers of different locators are independent
module _ (E : Edition) (S : Sound E) (t : ℕ) (at : ℕ → ℕ) (inside : (i : ℕ) → i < t → at i < E.small)
    (apart : (i j : ℕ) → i < t → j < t → ¬ (i ≡ j) → ¬ (at i ≡ at j)) where
  locator : ℕ → Element E.bits
  locator i = reduced E.bits (E.locator (at i))

  locator-value : (i : ℕ) → i < t → (locator i).0 ≡ E.locator (at i)
  unfolding locator
  locator-value i h = mod-eq_of_lt (S.locator-lt (at i) (inside i h))

  locators-differ : (i j : ℕ) → i < t → j < t → ¬ (i ≡ j) → ¬ (locator i ≡ locator j)
  locators-differ i j hi hj n e =
      S.locator-apart (at i) (at j) (inside i hi) (inside j hj) (apart i j hi hj n)
      (sym (locator-value i hi) ∙ ap (λ (x : Element E.bits). x.0) e ∙ locator-value j hj)

  power-sum : (x : ℕ → ℕ) (e : ℕ)
      → (psum (field S.facts) locator (below t) (λ i. reduced E.bits (x i)) e).0
      ≡ sum_below t (λ i. product E.bits E.poly (raised E (E.locator (at i)) e) (x i))
  unfolding locator
  power-sum x e =
      sum-value S.facts t _
      ∙ sum-ext t _ _
      (λ i _.
      product-low-l E.bits E.poly (x i) _
      ∙ ap (product E.bits E.poly (x i)) (pow-value S.facts (locator i) e ∙ power-low E.bits E.poly (E.locator (at i)) e)
      ∙ product-comm E.bits E.poly (x i) _)

  pub independent : (M : List (List ℕ)) → ((e i : ℕ) → e < t → i < t → entry M e i ≡ raised E (E.locator (at i)) e) → TrivialKernel E.bits E.poly M t
  independent M powers x small kernel i h =
      sym (mod-eq_of_lt (small i))
      ∙ ap (λ (y : Element E.bits). y.0)
      (vandermonde (field S.facts) locator (below t) (λ i. reduced E.bits (x i)) (distinct-below locator t locators-differ)
      (λ e l.
      let b : e < t = rw (length-below t) at l in
      same-value E.bits
      (power-sum x e ∙ sum-ext t _ _ (λ i k. ap (λ a. product E.bits E.poly a (x i)) (sym (powers e i b k))) ∙ kernel e b))
      i (in-below t i h))
