-- Laws: The rows of coefficients as constants, and one test over all of them.
use Rattle.std.specs.Prelude.{◌≡◌, Bool, ◌&&◌, ℕ, suc, ◌<◌, T, eqb, get_or}
use Rattle.std.proofs.Common.{sym, ◌∙◌, lit<}
use Rattle.std.proofs.Math.Dec.{eqb→eq}
use Rattle.counting.specs.Test.{all_below}
use Rattle.counting.specs.TestLaws.{and_l, and_r, all-at}
use Rattle.binary_field.specs.Xor.{◌⊕◌, masked}
use Rattle.binary_field.specs.XorLaws.{⊕-lt}
use Rattle.binary_field.specs.Product.{double, bit_sum, product}
use Rattle.binary_field.specs.ProductLaws.{product_lt}
use Rattle.binary_field.specs.Power.{power, squares}
use Rattle.binary_field.specs.PowerLaws.{power-squares, power-lt}
use Rattle.gf256.specs.Locators.{locators}
use Rattle.code.specs.Edition.{raised}
use Rattle.byte_edition.specs.Edition.{byte_edition}
use Rattle.code.specs.Word.{coefficient}
use Rattle.byte_edition.specs.Rows.{power_rows, first_rows, second_rows, at}

-- the entries of row i at place j: a power of the locator, b, and four squares of b
entry_right : ℕ → ℕ → Bool
entry_right i j =
    eqb (at power_rows i j) (power 8 285 (get_or locators j 0) i)
    && (eqb (at first_rows i j) (coefficient byte_edition (suc i) j) && eqb (at second_rows i j) (squares 8 285 4 (coefficient byte_edition (suc i) j)))

rule : T (all_below 4 (λ i. all_below 16 (entry_right i)))
unfolding entry_right power_rows first_rows second_rows locators coefficient power squares product bit_sum double masked ◌⊕◌
rule = tt

module _ (i j : ℕ) (hi : i < 4) (hj : j < 16) where
  tested : T (entry_right i j)
  tested = all-at 16 (entry_right i) (all-at 4 (λ i. all_below 16 (entry_right i)) rule i hi) j hj

  pub power_at : at power_rows i j ≡ raised byte_edition (byte_edition.locator j) i
  unfolding entry_right
  power_at = eqb→eq (at power_rows i j) (power 8 285 (get_or locators j 0) i) (and_l (eqb (at power_rows i j) (power 8 285 (get_or locators j 0) i)) _ tested)

  rest : T (eqb (at first_rows i j) (coefficient byte_edition (suc i) j) && eqb (at second_rows i j) (squares 8 285 4 (coefficient byte_edition (suc i) j)))
  unfolding entry_right
  rest = and_r (eqb (at power_rows i j) (power 8 285 (get_or locators j 0) i)) _ tested

  pub first-at : at first_rows i j ≡ coefficient byte_edition (suc i) j
  first-at = eqb→eq (at first_rows i j) (coefficient byte_edition (suc i) j) (and_l (eqb (at first_rows i j) (coefficient byte_edition (suc i) j)) _ rest)

  coefficient-lt : coefficient byte_edition (suc i) j < 256
  unfolding coefficient
  coefficient-lt = ⊕-lt 8 _ _ (power-lt 8 285 (lit< tt) (get_or locators j 0) (suc i)) (product_lt 8 285 2 _)

  pub second_at : at second_rows i j ≡ raised byte_edition (coefficient byte_edition (suc i) j) 16
  second_at =
      eqb→eq (at second_rows i j) (squares 8 285 4 (coefficient byte_edition (suc i) j))
      (and_r (eqb (at first_rows i j) (coefficient byte_edition (suc i) j)) _ rest)
      ∙ sym (power-squares 8 285 (lit< tt) (coefficient byte_edition (suc i) j) 4 coefficient-lt)
