-- Gauss-Jordan elimination of a matrix, a list of rows, over the field of k digits modulo m. For bytes k is 8 and m is 285.
use Rattle.std.specs.Prelude.{cond, List, [], ◌∷◌, ℕ, zero, suc, ◌+◌, ◌-◌, eqb, ltb, get_or, set}
use Rattle.binary_field.specs.Xor.{◌⊕◌}
use Rattle.binary_field.specs.Product.{product}
use Rattle.binary_field.specs.Inverse.{inverse}

abbrev pub row : List (List ℕ) → ℕ → List ℕ
row M i = get_or M i []

abbrev pub entry : List (List ℕ) → ℕ → ℕ → ℕ
entry M i j = get_or (row M i) j 0

-- a row times f
unfoldable pub scaled : ℕ → ℕ → ℕ → List ℕ → List ℕ
scaled k m f [] = []
scaled k m f (x ∷ xs) = product k m f x ∷ scaled k m f xs

-- a row plus f times another; the shorter counts as followed by zeros
unfoldable pub added : ℕ → ℕ → ℕ → List ℕ → List ℕ → List ℕ
added k m f [] ys = scaled k m f ys
added k m f (x ∷ xs) [] = x ∷ xs
added k m f (x ∷ xs) (y ∷ ys) = (x ⊕ product k m f y) ∷ added k m f xs ys

-- the rows i and j exchanged
abbrev pub exchanged : List (List ℕ) → ℕ → ℕ → List (List ℕ)
exchanged M i j = set (set M i (row M j)) j (row M i)

-- row j times the inverse of its entry in column j
unfoldable pub normalized : ℕ → ℕ → List (List ℕ) → ℕ → List (List ℕ)
normalized k m M j = set M j (scaled k m (inverse k m (entry M j j)) (row M j))

-- row i, if it is not j, plus its entry in column j times row j
unfoldable pub cleared_row : ℕ → ℕ → List (List ℕ) → ℕ → ℕ → List (List ℕ)
cleared_row k m M j i = cond (eqb i j) M (set M i (added k m (entry M i j) (row M i) (row M j)))

-- the same for each row below n in turn
unfoldable pub cleared : ℕ → ℕ → List (List ℕ) → ℕ → ℕ → List (List ℕ)
cleared k m M j zero = M
cleared k m M j (suc n) = cleared_row k m (cleared k m M j n) j n

-- the first of the n rows from i on whose entry in column j is not 0; i + n if there is none
unfoldable pub pivot_from : List (List ℕ) → ℕ → ℕ → ℕ → ℕ
pivot_from M j zero i = i
pivot_from M j (suc n) i = cond (eqb (entry M i j) 0) (pivot_from M j n (i + 1)) i

-- the first row from j on and below t whose entry in column j is not 0; t if there is none
unfoldable pub pivot : List (List ℕ) → ℕ → ℕ → ℕ
pivot M j t = pivot_from M j (t - j) j

-- column j made the column j of the identity, if it has a pivot
unfoldable pub eliminate_column : ℕ → ℕ → List (List ℕ) → ℕ → ℕ → List (List ℕ)
eliminate_column k m M j t = cond (ltb (pivot M j t) t) (cleared k m (normalized k m (exchanged M j (pivot M j t)) j) j t) M

-- the columns below n in turn
unfoldable pub eliminated_to : ℕ → ℕ → List (List ℕ) → ℕ → ℕ → List (List ℕ)
eliminated_to k m M t zero = M
eliminated_to k m M t (suc n) = eliminate_column k m (eliminated_to k m M t n) n t

-- the first t rows and columns made the identity, as far as there are pivots
unfoldable pub eliminated : ℕ → ℕ → List (List ℕ) → ℕ → List (List ℕ)
eliminated k m M t = eliminated_to k m M t t
