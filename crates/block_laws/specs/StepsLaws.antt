-- Laws: What the steps of the engine take and leave.
use Rattle.std.specs.Prelude.{◌≡◌, List, length, get_or, set, replicate}
use Rattle.std.proofs.Math.Path.{refl, ap}
use Rattle.std.proofs.Common.{sym, ◌∙◌, subst, suc-mul, one-mul, mul-le-mul, mul-le-mul_right, arith, lit<, length-set, get_or-set_same, get_or-set_other}
use Prim.Native.Nat.{ℕ, zero, suc, ◌+◌, ◌*◌, ◌<◌, ◌≤◌}
use Rattle.std.proofs.Math.Decide.{ℕ_discrete, dec_lt}
use Rattle.binary_field.specs.Product.{product}
use Rattle.binary_field.specs.ProductLaws.{product-comm, product-one, product_lt, zero-product}
use Rattle.binary_field.specs.Power.{power}
use Rattle.binary_field.specs.PowerLaws.{power-lt}
use Rattle.binary_field.specs.XorLaws.{⊕-lt}
use Rattle.binary_field.specs.Sum.{inner_product}
use Rattle.binary_field.specs.SumLaws.{sum-single}
use Rattle.byte_edition.specs.Rows.{first_rows, second_rows, no_row}
use Rattle.byte_edition.specs.RowsLaws.{first-at, second_at}
use Rattle.code.specs.Edition.{times, raised}
use Rattle.code.specs.Word.{coefficient, second_coefficient}
use Rattle.code.specs.Stretch.{with_stretch}
use Rattle.code.specs.StretchLaws.{with-inside, with-before, with-after}
use Rattle.byte_edition.specs.Edition.{byte_edition}
use Rattle.block_constants.specs.Reduced.{ReducedTo}
use Rattle.block_constants.specs.ReducedLaws.{reduced-ext}
use Rattle.block_constants.specs.Equations.{equation_of}
use Rattle.block_laws.specs.Group.{check_of}
use Rattle.block_laws.specs.Steps.{Coefficients, Limit}

-- ---- the coefficients of the sums across
zeros : (n i : ℕ) → ◌≡◌ {A = ℕ} (get_or (replicate n 0) i 0) 0
zeros zero i = refl
zeros (suc n) zero = refl
zeros (suc n) (suc i) = zeros n i

pub unit-long : (j : ℕ) → length {A = ℕ} (set (replicate 16 0) j 1) ≡ 16
unit-long j = length-set (replicate 16 0) j 1

-- the inner product with 1 at place j
pub unit-inner : (row : List ℕ) (j : ℕ) → j < 16 → get_or row j 0 < 256 → inner_product 8 285 16 (set (replicate 16 0) j 1) row ≡ get_or row j 0
unfolding inner_product
unit-inner row j l small =
    sum-single 16 j _ l (λ i h n. ap (λ a. product 8 285 a (get_or row i 0)) (get_or-set_other (replicate 16 0) j i 1 0 n ∙ zeros 16 i)
    ∙ zero-product 8 285 (get_or row i 0))
    ∙ ap (λ a. product 8 285 a (get_or row j 0)) (get_or-set_same (replicate 16 0) j 1 0 l) ∙ product-comm 8 285 1 (get_or row j 0)
    ∙ product-one 8 285 (lit< tt) (get_or row j 0) small

coefficient-lt : (c j : ℕ) → coefficient byte_edition c j < 256
unfolding coefficient
coefficient-lt c j = ⊕-lt 8 _ _ (power-lt 8 285 (lit< tt) (byte_edition.locator j) c) (product_lt 8 285 2 _)

module _ (i : ℕ) (hi : i < 4) (j : ℕ) (hj : j < 16) where
  pub first_inner : inner_product 8 285 16 (set (replicate 16 0) j 1) (get_or first_rows i no_row) ≡ coefficient byte_edition (suc i) j
  first_inner =
      unit-inner (get_or first_rows i no_row) j hj (subst (λ b. b < 256) (sym (first-at i j hi hj)) (coefficient-lt (suc i) j)) ∙ first-at i j hi hj

  pub second-inner : inner_product 8 285 16 (set (replicate 16 0) j 1) (get_or second_rows i no_row) ≡ raised byte_edition (coefficient byte_edition (suc i) j) 16
  second-inner =
      unit-inner (get_or second_rows i no_row) j hj (subst (λ b. b < 256) (sym (second_at i j hi hj))
      (power-lt 8 285 (lit< tt) (coefficient byte_edition (suc i) j) 16))
      ∙ second_at i j hi hj

-- the equations that are reduced are those of group g
module _ (c g : ℕ) (first second s : List ℕ) (C : Coefficients c first second)
    (scaled : (j : ℕ) → j < 16 → get_or s j 0 ≡ times byte_edition (get_or second j 0) (power 8 285 2 g)) where
  equation-check : (i : ℕ) → i < 6 → (j : ℕ) → j < 16 → equation_of first s i j ≡ check_of c g i j
  unfolding equation_of check_of second_coefficient
  equation-check zero l j h = refl
  equation-check (suc zero) l j h = refl
  equation-check (suc (suc zero)) l j h = refl
  equation-check (suc (suc (suc zero))) l j h = refl
  equation-check (suc (suc (suc (suc zero)))) l j h = C.first-at j h
  equation-check (suc (suc (suc (suc (suc i))))) l j h =
      scaled j h ∙ ap (λ a. times byte_edition a (power 8 285 2 g)) (C.second_at j h) ∙ product-comm 8 285 _ (power 8 285 2 g)

  pub reduced-check : (w : ℕ) (bound : List ℕ) (t : ℕ) (M : ℕ → ℕ → ℕ) → w ≤ 16 → t ≤ 4 → ReducedTo byte_edition w 6 bound w t (equation_of first s) M
      → ReducedTo byte_edition w 6 bound w t (check_of c g) M
  reduced-check w bound t M narrow few R = reduced-ext byte_edition w 6 bound w t (equation_of first s) (check_of c g) M (omega arith)
      (λ i l j h. equation-check i l j (omega arith)) R

-- ---- limits
pub limit-more : {n r s : ℕ} (P Q : ℕ → Type 0) → Limit n r P → Limit r s Q → Limit n s (λ x. P x × Q x)
limit-more {n} {r} {s} P Q A B = record {
  most = let a = A.most in let b = B.most in omega arith;
  holds = λ x l. (A.holds x (let b = B.most in omega arith), B.holds x l);
  stops = λ l z. elim (dec_lt s r) [
    | yes h ↦ B.stops h z.1
    | no h ↦ (let b = B.most in let e : s ≡ r = omega arith in A.stops (omega arith) (subst P e z.0))
  ];
}

pub limit-map : {n r : ℕ} {P Q : ℕ → Type 0} → ((x : ℕ) → x < n → P x → Q x) → ((x : ℕ) → x < n → Q x → P x) → Limit n r P → Limit n r Q
limit-map to from A = record {
  most = A.most;
  holds = λ x l. to x (let b = A.most in omega arith) (A.holds x l);
  stops = λ l q. A.stops l (from _ l q);
}

-- one group more
pub limit-next : {n r s : ℕ} (g : ℕ) (P : ℕ → ℕ → Type 0) → Limit n r (λ x. (h : ℕ) → h < g → P h x) → Limit r s (P g)
    → Limit n s (λ x. (h : ℕ) → h < g + 1 → P h x)
limit-next g P A B =
    limit-map (λ x l z h b. elim (ℕ_discrete h g) [
      | yes q ↦ subst (λ i. P i x) (sym q) z.1
      | no q ↦ z.0 h (omega arith)
    ]) (λ x l z. (λ h b. z h (omega arith), z g (omega arith))) (limit-more (λ x. (h : ℕ) → h < g → P h x) (P g) A B)

pub limit-none : (n : ℕ) (P : ℕ → Type 0) → ((x : ℕ) → x < n → P x) → Limit n n P
limit-none n P all = record { most = omega arith; holds = all; stops = λ l. absurd (omega arith) }

-- ---- rows laid one after another
pub mul-within : (a b m n : ℕ) → a ≤ m → b ≤ n → a * b ≤ m * n
mul-within a b m n l h = mul-le-mul l h

-- a block is no longer than the blocks
pub size_small : (k size lent : ℕ) → 1 ≤ k → k * size ≤ lent → lent ≤ 65536 → size ≤ 65536
size_small k size lent some fits most = let a : 1 * size ≤ k * size = mul-le-mul_right size some in let b = one-mul size in omega arith

pub add-mul : (r w : ℕ) → (r + 1) * w ≡ r * w + w
add-mul r w = let e : r + 1 ≡ suc r = omega arith in ap (λ k. k * w) e ∙ suc-mul r w

-- row r lies within the first n
pub row_inside : (r n w : ℕ) → r < n → r * w + w ≤ n * w
row_inside r n w l = let k : suc r * w ≤ n * w = mul-le-mul_right w l in let e = suc-mul r w in omega arith

module _ (w r : ℕ) (out part : List ℕ) (fits : suc r * w ≤ length out) (long : length part ≡ w) where
  -- the other rows stay
  pub other-stretch : (k j : ℕ) → ¬ (k ≡ r) → j < w → get_or (with_stretch w r out part) (k * w + j) 0 ≡ get_or out (k * w + j) 0
  other-stretch k j n l = elim (dec_lt k r) [
    | yes h ↦ (let i = row_inside k r w h in with-before w r out fits part long (k * w + j) (omega arith))
    | no h ↦ (let i = row_inside r k w (omega arith) in let e = suc-mul r w in with-after w r out fits part long (k * w + j) (omega arith))
  ]

  -- what holds of each row below r, and of the row written, holds of each below r + 1
  pub each-stretch : (P : ℕ → ℕ → ℕ → Type 0) → ((k : ℕ) → k < r → (j : ℕ) → j < w → P k j (get_or out (k * w + j) 0)) → ((j : ℕ) → j < w → P r j (get_or part j 0))
      → (k : ℕ) → k < r + 1 → (j : ℕ) → j < w → P k j (get_or (with_stretch w r out part) (k * w + j) 0)
  each-stretch P before here k l j h = elim (ℕ_discrete k r) [
    | yes q ↦
        subst (λ i. P i j (get_or (with_stretch w r out part) (i * w + j) 0)) (sym q)
        (subst (P r j) (sym (with-inside w r out fits part long j h)) (here j h))
    | no q ↦ subst (P k j) (sym (other-stretch k j q h)) (before k (omega arith) j h)
  ]
