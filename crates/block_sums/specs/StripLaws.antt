-- Laws: a strip of the sums of blocks times constants, sixteen blocks at a time.
use Rattle.std.specs.Prelude.{◌≡◌, List, ℕ, suc, ◌+◌, ◌-◌, ◌*◌, ◌/◌, ◌^◌, ◌≤◌, ◌<◌, min}
use Rattle.std.proofs.Common.{sym, ap₂, ◌∙◌, add-mul, suc-mul}
use Rattle.std.proofs.Math.Path.{ap}
use native.Mathlib.Omega.{arith}
use Rattle.std.proofs.Math.Decide.{dec_lt}
use Rattle.std.proofs.Math.ListN.{length, get_or, get_or-eq_default}
use Rattle.binary_field.specs.Xor.{◌⊕◌}
use Rattle.binary_field.specs.XorLaws.{⊕-zero-r}
use Rattle.binary_field.specs.Product.{product}
use Rattle.binary_field.specs.ProductLaws.{zero-product}
use Rattle.binary_field.specs.Sum.{sum_below}
use Rattle.binary_field.specs.SumLaws.{sum-ext, sum-zero, sum-append}
use Rattle.code.specs.Stretch.{stretch}
use Rattle.code.specs.StretchLaws.{stretch-at, stretch-length}
use Rattle.block_sums.specs.Sums.{block_sum}
use Rattle.block_tables.specs.Table.{selector, selector_at, TablesMade, turns}
use Rattle.block_tables.specs.StoreLaws.{row-end}
use Rattle.block_tables.specs.TurnsLaws.{sum-fours, turns-sum}

-- the term of block p
abbrev pub term_at : ℕ → List ℕ → ℕ → List ℕ → ℕ → ℕ → ℕ
term_at size blocks first k y p = product 8 285 (get_or k p 0) (get_or blocks ((first + p) * size + y) 0)

module _ (size : ℕ) (blocks : List ℕ) (first count : ℕ) (k : List ℕ) (long : length k ≡ count) (byte : (p : ℕ) → get_or k p 0 < 256) (x n i : ℕ)
    (inside : i < n) (few : n ≤ 96) (j : ℕ) (quarter : j / 4 * 4 ≡ j) (t : List ℕ) (cell : (p : ℕ) → get_or t p 0 < 256)
    (made : TablesMade size ((first + j) * size + x) (min (count - j) 16) n blocks t) where
  narrow : i < 96
  narrow = omega arith

  -- a constant by its place in the chunk
  place : (s e : ℕ) → (j / 4 + s) * 4 + e ≡ j + (s * 4 + e)
  place s e = omega arith

  chosen_at : (s : ℕ) → selector_at k (j / 4 + s)
      ≡ selector 8 (get_or k (j + (s * 4 + 0)) 0) (get_or k (j + (s * 4 + 1)) 0) (get_or k (j + (s * 4 + 2)) 0) (get_or k (j + (s * 4 + 3)) 0)
  unfolding selector_at
  chosen_at s =
      let z : (j / 4 + s) * 4 ≡ j + (s * 4 + 0) = omega arith in
      four (ap (λ p. get_or k p 0) z) (ap (λ p. get_or k p 0) (place s 1)) (ap (λ p. get_or k p 0) (place s 2)) (ap (λ p. get_or k p 0) (place s 3))
    where
      four : {a b c d p q r u : ℕ} → a ≡ p → b ≡ q → c ≡ r → d ≡ u → selector 8 a b c d ≡ selector 8 p q r u
      four ea eb ec ed = cc

  term : (s e : ℕ) → s < 4 → e < 4
      → product 8 285 (get_or k (j + (s * 4 + e)) 0) (get_or t (s * 1536 + (2 ^ e * 96 + i)) 0) ≡ term_at size blocks first k (x + i) (j + (s * 4 + e))
  term s e a b = elim (dec_lt (j + (s * 4 + e)) count) [
    | yes h ↦
        (let m : ℕ = s * 4 + e in
        let v = add-mul (first + j) m size in
        let w : first + j + m ≡ first + (j + m) = omega arith in
        let u = ap (λ z. z * size) w in
        let q : (first + j) * size + x + m * size + i ≡ (first + (j + m)) * size + (x + i) = omega arith in
        ap (product 8 285 (get_or k (j + m) 0)) (made.here s e i a b (omega arith) inside ∙ ap (λ p. get_or blocks p 0) q))
    | no h ↦
        (let p : length k ≤ j + (s * 4 + e) = omega arith in
        let z = get_or-eq_default k 0 p in
        ap (λ v. product 8 285 v (get_or t (s * 1536 + (2 ^ e * 96 + i)) 0)) z ∙ zero-product 8 285 _
        ∙ sym (ap (λ v. product 8 285 v (get_or blocks ((first + (j + (s * 4 + e))) * size + (x + i)) 0)) z ∙ zero-product 8 285 _))
  ]

  -- sixteen blocks more
  pub chunk-sum : turns t i 8 (selector_at k (j / 4 + 0)) (selector_at k (j / 4 + 1)) (selector_at k (j / 4 + 2)) (selector_at k (j / 4 + 3)) 0
      ≡ sum_below 16 (λ m. term_at size blocks first k (x + i) (j + m))
  chunk-sum =
      four (chosen_at 0) (chosen_at 1) (chosen_at 2) (chosen_at 3) ∙ turns-sum t made.tables i narrow (λ m. get_or k (j + m) 0) (λ m. byte (j + m)) cell
      ∙ sum-ext 4 _ _ (λ s a. sum-ext 4 _ _ (λ e b. term s e a b)) ∙ sum-fours 4 (λ m. term_at size blocks first k (x + i) (j + m))
    where
      four : {a b c d p q r u : ℕ} → a ≡ p → b ≡ q → c ≡ r → d ≡ u → turns t i 8 a b c d 0 ≡ turns t i 8 p q r u 0
      four ea eb ec ed = cc

  pub chunk-added : (before after : ℕ) → before ≡ sum_below j (term_at size blocks first k (x + i))
      → after ≡ before ⊕ turns t i 8 (selector_at k (j / 4 + 0)) (selector_at k (j / 4 + 1)) (selector_at k (j / 4 + 2)) (selector_at k (j / 4 + 3)) 0
      → after ≡ sum_below (j + 16) (term_at size blocks first k (x + i))
  chunk-added before after h e = e ∙ ap₂ ◌⊕◌ h chunk-sum ∙ sym (sum-append j 16 (term_at size blocks first k (x + i)))

-- all blocks: terms past the last constant are 0
module _ (size : ℕ) (blocks : List ℕ) (first count rows : ℕ) (constants : List ℕ) (r y : ℕ) (l : r < rows) (laid : rows * count ≤ length constants) where
  row_fits : r * count + count ≤ length constants
  row_fits = row-end r rows count (length constants) l laid

  pub row-long : length (stretch count r constants) ≡ count
  row-long = stretch-length count r constants (let e : suc r * count ≡ r * count + count = suc-mul r count in let f = row_fits in omega arith)

  pub sum-all : (j : ℕ) → count ≤ j → sum_below j (term_at size blocks first (stretch count r constants) y) ≡ block_sum size blocks first count constants r y
  unfolding block_sum
  sum-all j h =
      let w : j ≡ count + (j - count) = omega arith in
      ap (λ m. sum_below m (term_at size blocks first (stretch count r constants) y)) w
      ∙ sum-append count (j - count) (term_at size blocks first (stretch count r constants) y)
      ∙ ap (λ s. sum_below count (term_at size blocks first (stretch count r constants) y) ⊕ s)
      (sum-zero (j - count) _ (λ m _.
      let p : length (stretch count r constants) ≤ count + m = (let z = row-long in omega arith) in
      ap (λ v. product 8 285 v (get_or blocks ((first + (count + m)) * size + y) 0)) (get_or-eq_default (stretch count r constants) 0 p)
      ∙ zero-product 8 285 _))
      ∙ ⊕-zero-r _ ∙ sum-ext count _ _ (λ m b. ap (λ v. product 8 285 v (get_or blocks ((first + m) * size + y) 0)) (stretch-at count r constants m b))

-- the selectors of a row as they were found
pub found-row : (found k : List ℕ) (r q : ℕ) (t : List ℕ) (i o : ℕ) → ((s : ℕ) → s < 4 → get_or found (r * 60 + (q + s)) 0 ≡ selector_at k (q + s))
    → o ⊕ turns t i 8 (get_or found (r * 60 + q) 0) (get_or found (r * 60 + q + 1) 0) (get_or found (r * 60 + q + 2) 0) (get_or found (r * 60 + q + 3) 0) 0
    ≡ o ⊕ turns t i 8 (selector_at k (q + 0)) (selector_at k (q + 1)) (selector_at k (q + 2)) (selector_at k (q + 3)) 0
found-row found k r q t i o same =
    let e0 : r * 60 + q ≡ r * 60 + (q + 0) = omega arith in
    let e1 : r * 60 + q + 1 ≡ r * 60 + (q + 1) = omega arith in
    let e2 : r * 60 + q + 2 ≡ r * 60 + (q + 2) = omega arith in
    let e3 : r * 60 + q + 3 ≡ r * 60 + (q + 3) = omega arith in
    four (at e0 ∙ same 0 (omega arith)) (at e1 ∙ same 1 (omega arith)) (at e2 ∙ same 2 (omega arith)) (at e3 ∙ same 3 (omega arith))
  where
    at : {p u : ℕ} → p ≡ u → get_or found p 0 ≡ get_or found u 0
    at e = ap (λ n. get_or found n 0) e

    four : {a b c d p u v w : ℕ} → a ≡ p → b ≡ u → c ≡ v → d ≡ w → o ⊕ turns t i 8 a b c d 0 ≡ o ⊕ turns t i 8 p u v w 0
    four ea eb ec ed = cc
