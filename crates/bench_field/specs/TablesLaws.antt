-- Laws: "Powers and logarithms for all 255 nonzero bytes are kept as constants": the two tables, one test over them, and the product through them.
use Rattle.std.specs.Prelude.{◌≡◌, refl, Bool, true, false, ◌&&◌, cond, List, [], ◌∷◌, ltb, length, get_or}
use Rattle.std.proofs.Common.{sym, ap, ap₂, ◌∙◌, subst, not-suc-le-zero, le_of_suc-le-suc, add-zero, zero-add, suc-add, add-suc, arith, eqb→eq, ltb→lt, lit<}
use Prim.Native.Nat.{ℕ, zero, suc, ◌+◌, ◌-◌, ◌<◌, ◌≤◌}
use Rattle.std.proofs.Math.Decide.{ℕ_discrete}
use borrow.Author.Tests.{ltb-true, ltb-false, eq-eqb, ne_eqb, lt-ltb, le-ltb}
use Rattle.std.proofs.Math.Dec.{T, eqb}
use Rattle.binary_field.specs.Xor.{◌⊕◌, masked}
use Rattle.counting.specs.Test.{all_below}
use Rattle.counting.specs.TestLaws.{and_l, and_r, all-at}
use Rattle.binary_field.specs.Product.{double, product}
use Rattle.binary_field.specs.ProductLaws.{product-zero, zero-product}
use Rattle.binary_field.specs.Power.{power}
use Rattle.binary_field.specs.PowerLaws.{power-add, power-lt}
use Rattle.gf256.specs.BytesLaws.{one-times, power-next}
use Rattle.bench_field.specs.Tables.{powers, logs, wrapped, through_tables}

-- each entry is the double of the one before, from a on
unfoldable chain : ℕ → List ℕ → Bool
chain a [] = true
chain a (x ∷ xs) = eqb x a && chain (double 8 285 a) xs

-- the logarithm of the byte i + 1 is below 255, and the power at it is that byte
log_right : ℕ → Bool
log_right i = ltb (get_or logs (suc i) 0) 255 && eqb (get_or powers (get_or logs (suc i) 0) 0) (suc i)

-- the one rule over the tables
rule : Bool
rule = chain 1 powers && all_below 255 log_right

rule-holds : T rule
unfolding rule chain log_right powers logs double masked ◌⊕◌
rule-holds = tt

chain-at : (s : ℕ) (xs : List ℕ) → T (chain (power 8 285 2 s) xs) → (i : ℕ) → i < length xs → get_or xs i 0 ≡ power 8 285 2 (s + i)
unfolding chain
chain-at s [] t i h = absurd (not-suc-le-zero h)
chain-at s (x ∷ xs) t zero h = eqb→eq x (power 8 285 2 s) (and_l (eqb x (power 8 285 2 s)) _ t) ∙ ap (power 8 285 2) (sym (add-zero s))
chain-at s (x ∷ xs) t (suc i) h =
    chain-at (suc s) xs (subst (λ a. T (chain a xs)) (sym (power-next s)) (and_r (eqb x (power 8 285 2 s)) _ t)) i (le_of_suc-le-suc h)
    ∙ ap (power 8 285 2) (suc-add s i ∙ sym (add-suc s i))

-- the entry i is 2 to the power i
pub powers-at : (i : ℕ) → i < 256 → get_or powers i 0 ≡ power 8 285 2 i
unfolding rule power powers
powers-at i h = chain-at 0 powers (and_l (chain 1 powers) (all_below 255 log_right) rule-holds) i h ∙ ap (power 8 285 2) (zero-add i)

-- 2 to the power 255 is 1
pub power-255 : power 8 285 2 255 ≡ 1
unfolding powers
power-255 = sym (powers-at 255 (lit< tt))

module _ (x : ℕ) (h : x < 256) (ne : x ≡ 0 → ⊥) where
  log-tested : T (ltb (get_or logs x 0) 255 && eqb (get_or powers (get_or logs x 0) 0) x)
  unfolding rule log_right
  log-tested = at x h ne
    where
      at : (y : ℕ) → y < 256 → (y ≡ 0 → ⊥) → T (ltb (get_or logs y 0) 255 && eqb (get_or powers (get_or logs y 0) 0) y)
      at zero l n = absurd (n refl)
      at (suc i) l n = all-at 255 log_right (and_r (chain 1 powers) (all_below 255 log_right) rule-holds) i (le_of_suc-le-suc l)

  pub log-lt : get_or logs x 0 < 255
  log-lt = ltb→lt (get_or logs x 0) 255 (and_l (ltb (get_or logs x 0) 255) _ log-tested)

  -- 2 to the power of the logarithm of x is x
  pub power-log : power 8 285 2 (get_or logs x 0) ≡ x
  power-log =
      sym (powers-at (get_or logs x 0) (let l = log-lt in omega arith))
      ∙ eqb→eq (get_or powers (get_or logs x 0) 0) x (and_r (ltb (get_or logs x 0) 255) _ log-tested)

module _ (p l : List ℕ) (a b x y : ℕ) (na : a ≡ 0 → ⊥) (nb : b ≡ 0 → ⊥) (ex : x ≡ get_or l a 0) (ey : y ≡ get_or l b 0) where
  -- the sum of the logarithms is below 255, or not
  pub through-low : x + y < 255 → get_or p (x + y) 0 ≡ through_tables p l a b
  unfolding through_tables
  through-low h = rw (ne_eqb a 0 na, ne_eqb b 0 nb, ← ex, ← ey, lt-ltb (x + y) 255 h)

  pub through-high : 255 ≤ x + y → get_or p ((x + y) - 255) 0 ≡ through_tables p l a b
  unfolding through_tables
  through-high h = rw (ne_eqb a 0 na, ne_eqb b 0 nb, ← ex, ← ey, le-ltb (x + y) 255 h)

power-wrapped : (s : ℕ) → s < 510 → get_or powers (wrapped s) 0 ≡ power 8 285 2 s
power-wrapped s h = go (ltb s 255) refl
  where
    go : (v : Bool) → ltb s 255 ≡ v → get_or powers (cond v s (s - 255)) 0 ≡ power 8 285 2 s
    go true e = powers-at s (omega (arith, ltb-true s 255 e))
    go false e =
        let l : 255 ≤ s = ltb-false s 255 e in
        let w : s ≡ 255 + (s - 255) = omega arith in
        powers-at (s - 255) (omega arith) ∙ sym (one-times (power 8 285 2 (s - 255)) (power-lt 8 285 (lit< tt) 2 (s - 255)))
        ∙ ap (λ x. product 8 285 x (power 8 285 2 (s - 255))) (sym power-255) ∙ sym (power-add 8 285 (lit< tt) 2 255 (s - 255)) ∙ ap (power 8 285 2) (sym w)

-- for all byte pairs the product through the two tables is the shifted product
pub tables-product : (a b : ℕ) → a < 256 → b < 256 → through_tables powers logs a b ≡ product 8 285 a b
unfolding through_tables
tables-product a b ha hb = go (ℕ_discrete a 0) (ℕ_discrete b 0)
  where
    go : Dec (a ≡ 0) → Dec (b ≡ 0) → through_tables powers logs a b ≡ product 8 285 a b
    go (yes e) d = rw (eq-eqb a 0 e) (sym (ap (λ x. product 8 285 x b) e ∙ zero-product 8 285 b))
    go (no n) (yes e) = rw (ne_eqb a 0 n, eq-eqb b 0 e) (sym (ap (product 8 285 a) e ∙ product-zero 8 285 a))
    go (no n) (no l) =
        let i : ℕ = get_or logs a 0 in
        let j : ℕ = get_or logs b 0 in
        rw (ne_eqb a 0 n, ne_eqb b 0 l)
        (power-wrapped (i + j) (omega (arith, log-lt a ha n, log-lt b hb l)) ∙ power-add 8 285 (lit< tt) 2 i j
        ∙ ap₂ (product 8 285) (power-log a ha n) (power-log b hb l))
