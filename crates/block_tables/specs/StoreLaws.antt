-- Laws: bytes stored one after another.
use Rattle.std.specs.Prelude.{◌≡◌, refl, List, ◌++◌, ℕ, zero, suc, ◌+◌, ◌*◌, ◌-◌, ◌≤◌, ◌<◌, length, get_or, set, replicate, take, drop}
use Rattle.std.proofs.Common.{ap, sym, ◌∙◌, suc-mul, mul-le-mul_right, arith, get_or-set_same, get_or-set_other}
use Rattle.std.proofs.Math.Decide.{ℕ_discrete}
use Rattle.std.specs.Int.Bits.{bit_xor}
use Rattle.binary_field.specs.Xor.{◌⊕◌}
use Rattle.code.specs.StretchLaws.{stretch-at, stretch-length, with-length, with-inside, with-before, with-after}
use Rattle.code.specs.LentLaws.{stretch-lent, with-lent}
use Rattle.binary_field.specs.XorLaws.{⊕-bits}

module _ (xs : List ℕ) (b i v : ℕ) where
  -- one more byte is what f says
  pub stored_here : (f : ℕ → ℕ) → b + i < length xs → v ≡ f i → ((j : ℕ) → j < i → get_or xs (b + j) 0 ≡ f j)
      → (j : ℕ) → j < i + 1 → get_or (set xs (b + i) v) (b + j) 0 ≡ f j
  stored_here f l e same j h = elim (ℕ_discrete j i) [
    | yes d ↦ ap (λ k. get_or (set xs (b + i) v) (b + k) 0) d ∙ get_or-set_same xs (b + i) v 0 l ∙ e ∙ ap f (sym d)
    | no d ↦ get_or-set_other xs (b + i) (b + j) v 0 (λ q. d (omega arith)) ∙ same j (omega arith)
  ]

  pub stored-below : (k : ℕ) → k < b → get_or (set xs (b + i) v) k 0 ≡ get_or xs k 0
  stored-below k l = get_or-set_other xs (b + i) k v 0 (λ q. omega arith)

  pub stored-above : (k : ℕ) → b + (i + 1) ≤ k → get_or (set xs (b + i) v) k 0 ≡ get_or xs k 0
  stored-above k l = get_or-set_other xs (b + i) k v 0 (λ q. omega arith)

-- the sum of five as the code writes it
pub xor-five : (a b c d e : ℕ) → bit_xor (bit_xor (bit_xor (bit_xor a b) c) d) e ≡ a ⊕ b ⊕ c ⊕ d ⊕ e
xor-five a b c d e = simp ⊕-bits

-- zeros
pub zeros-at : (n i : ℕ) → get_or {A = ℕ} (replicate n 0) i 0 ≡ 0
zeros-at zero i = refl
zeros-at (suc n) zero = refl
zeros-at (suc n) (suc i) = zeros-at n i

-- bytes of four rows, by where the rows begin
pub rows-begin : (t : List ℕ) (o i : ℕ) {a b c d p q u v : ℕ} → a ≡ p → b ≡ q → c ≡ u → d ≡ v
    → o ⊕ get_or t (a + i) 0 ⊕ get_or t (b + 1536 + i) 0 ⊕ get_or t (c + 3072 + i) 0 ⊕ get_or t (d + 4608 + i) 0
    ≡ o ⊕ get_or t (p + i) 0 ⊕ get_or t (q + 1536 + i) 0 ⊕ get_or t (u + 3072 + i) 0 ⊕ get_or t (v + 4608 + i) 0
rows-begin t o i ea eb ec ed = cc

-- row g of those that lie one after another ends inside
pub row-end : (g rows w n : ℕ) → g < rows → rows * w ≤ n → g * w + w ≤ n
row-end g rows w n l h =
    let e : suc g * w ≡ g * w + w = suc-mul g w in
    let k : suc g * w ≤ rows * w = mul-le-mul_right w l in
    omega arith

-- ---- a row that is lent, and what comes back in its place
module _ (w g : ℕ) (xs : List ℕ) (fits : g * w + w ≤ length xs) where
  room : suc g * w ≤ length xs
  room = let e : suc g * w ≡ g * w + w = suc-mul g w in omega arith

  pub lent-long : length (take (g * w + w - g * w) (drop (g * w) xs)) ≡ w
  lent-long = ap length (stretch-lent w g xs) ∙ stretch-length w g xs room

  pub lent_at : (j : ℕ) → j < w → get_or (take (g * w + w - g * w) (drop (g * w) xs)) j 0 ≡ get_or xs (g * w + j) 0
  lent_at j l = ap (λ p. get_or p j 0) (stretch-lent w g xs) ∙ stretch-at w g xs j l

  module _ (part : List ℕ) (size : length part ≡ w) where
    pub back_long : length (take (g * w) xs ++ (part ++ drop (g * w + w - g * w) (drop (g * w) xs))) ≡ length xs
    back_long = ap length (with-lent w g xs part) ∙ with-length w g xs room part size

    pub back-here : (j : ℕ) → j < w → get_or (take (g * w) xs ++ (part ++ drop (g * w + w - g * w) (drop (g * w) xs))) (g * w + j) 0 ≡ get_or part j 0
    back-here j l = ap (λ p. get_or p (g * w + j) 0) (with-lent w g xs part) ∙ with-inside w g xs room part size j l

    pub back_below : (p : ℕ) → p < g * w → get_or (take (g * w) xs ++ (part ++ drop (g * w + w - g * w) (drop (g * w) xs))) p 0 ≡ get_or xs p 0
    back_below p l = ap (λ q. get_or q p 0) (with-lent w g xs part) ∙ with-before w g xs room part size p l

    pub back_above : (p : ℕ) → g * w + w ≤ p → get_or (take (g * w) xs ++ (part ++ drop (g * w + w - g * w) (drop (g * w) xs))) p 0 ≡ get_or xs p 0
    back_above p l =
        ap (λ q. get_or q p 0) (with-lent w g xs part) ∙ with-after w g xs room part size p (let e : suc g * w ≡ g * w + w = suc-mul g w in omega arith)
