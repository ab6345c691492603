-- Sums of the field over the numbers below n.
use Rattle.std.specs.Prelude.{List, ℕ, zero, suc, get_or}
use Rattle.binary_field.specs.Xor.{◌⊕◌}
use Rattle.binary_field.specs.Product.{product}

-- f 0 + f 1 + .. + f (n - 1)
unfoldable pub sum_below : ℕ → (ℕ → ℕ) → ℕ
sum_below zero f = 0
sum_below (suc n) f = sum_below n f ⊕ f n

-- the sum of u j · v j over the places j below n
unfoldable pub inner_product : ℕ → ℕ → ℕ → List ℕ → List ℕ → ℕ
inner_product k m n u v = sum_below n (λ j. product k m (get_or u j 0) (get_or v j 0))
