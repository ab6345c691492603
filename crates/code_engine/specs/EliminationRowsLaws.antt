-- Laws: What each row operation makes of a row, the functions of rows that are linear, and the two cases of a column.
use Rattle.std.specs.Prelude.{◌≡◌, cond, eqb, ltb, length, set}
use Rattle.std.proofs.Math.Path.{refl, sym, ap, subst}
use Rattle.std.proofs.Common.{ap₂, ◌∙◌, eq-eqb, ne_eqb, lt-ltb, le-ltb}
use mathlib.Core.List.{List, [], ◌∷◌}
use Prim.Native.Nat.{ℕ, zero, suc, ◌+◌, ◌-◌, ◌≤◌, ◌<◌}
use Rattle.std.proofs.Math.Nat.{add-zero, suc_inj}
use Rattle.std.proofs.Math.Decide.{ℕ_discrete}
use native.Mathlib.Omega.{arith}
use Rattle.std.proofs.Math.ListN.{get_or, length-set}
use Rattle.std.proofs.Math.Seq.{get_or-set_same, get_or-set_other}
use Rattle.binary_field.specs.Xor.{◌⊕◌}
use Rattle.binary_field.specs.XorLaws.{⊕-zero-l, ⊕-zero-r, ⊕-lt, ⊕-swap}
use Rattle.binary_field.specs.Product.{product}
use Rattle.binary_field.specs.ProductLaws.{product_lt, product-zero, product-add, product-assoc, add-product}
use Rattle.binary_field.specs.Sum.{sum_below}
use Rattle.binary_field.specs.SumLaws.{sum-ext, sum-add, sum-scale, sum_lt}
use Rattle.binary_field.specs.Inverse.{inverse}
use Rattle.code_engine.specs.Elimination.{row, entry, scaled, added, exchanged, normalized, cleared_row, cleared, pivot_from, pivot, eliminate_column}
use Rattle.code_engine.specs.EliminationRows.{Linear}

module _ (k m : ℕ) where
  pub scaled_at : (f : ℕ) (xs : List ℕ) (c : ℕ) → get_or (scaled k m f xs) c 0 ≡ product k m f (get_or xs c 0)
  unfolding scaled
  scaled_at f [] c = sym (product-zero k m f)
  scaled_at f (x ∷ xs) zero = refl
  scaled_at f (x ∷ xs) (suc c) = scaled_at f xs c

  pub length-scaled : (f : ℕ) (xs : List ℕ) → length (scaled k m f xs) ≡ length xs
  unfolding scaled
  length-scaled f [] = refl
  length-scaled f (x ∷ xs) = ap suc (length-scaled f xs)

  pub length-added : (f : ℕ) (xs ys : List ℕ) → length ys ≡ length xs → length (added k m f xs ys) ≡ length xs
  unfolding added
  length-added f [] ys h = length-scaled f ys ∙ h
  length-added f (x ∷ xs) [] h = refl
  length-added f (x ∷ xs) (y ∷ ys) h = ap suc (length-added f xs ys (suc_inj h))

  pub added-at : (f : ℕ) (xs ys : List ℕ) (c : ℕ) → get_or (added k m f xs ys) c 0 ≡ get_or xs c 0 ⊕ product k m f (get_or ys c 0)
  unfolding added
  added-at f [] ys c = scaled_at f ys c ∙ sym (⊕-zero-l _)
  added-at f (x ∷ xs) [] c = sym (ap (λ y. get_or (x ∷ xs) c 0 ⊕ y) (product-zero k m f) ∙ ⊕-zero-r _)
  added-at f (x ∷ xs) (y ∷ ys) zero = refl
  added-at f (x ∷ xs) (y ∷ ys) (suc c) = added-at f xs ys c

  -- ---- linear functions: an entry, a sum of two, a sum of multiples of entries
  pub linear-at : (c : ℕ) → Linear k m (λ xs. get_or xs c 0)
  linear-at c = record { scale = λ f xs. scaled_at f xs c; add = λ f xs ys. added-at f xs ys c; keeps = λ xs h. h c }

  pub linear-sum : (L N : List ℕ → ℕ) → Linear k m L → Linear k m N → Linear k m (λ xs. L xs ⊕ N xs)
  linear-sum L N l n =
      record {
        scale = λ f xs. ap₂ ◌⊕◌ (l.scale f xs) (n.scale f xs) ∙ sym (product-add k m f (L xs) (N xs));
        add = λ f xs ys.
            ap₂ ◌⊕◌ (l.add f xs ys) (n.add f xs ys) ∙ ⊕-swap (L xs) (product k m f (L ys)) (N xs) (product k m f (N ys))
            ∙ ap (λ s. (L xs ⊕ N xs) ⊕ s) (sym (product-add k m f (L ys) (N ys)));
        keeps = λ xs h. ⊕-lt k (L xs) (N xs) (l.keeps xs h) (n.keeps xs h);
      }

  pub linear-dot : (t : ℕ) (x : ℕ → ℕ) → Linear k m (λ xs. sum_below t (λ i. product k m (get_or xs i 0) (x i)))
  linear-dot t x =
      record {
        scale = λ f xs.
            sum-ext t _ _ (λ i _. ap (λ a. product k m a (x i)) (scaled_at f xs i) ∙ product-assoc k m f (get_or xs i 0) (x i))
            ∙ sum-scale k m t f (λ i. product k m (get_or xs i 0) (x i));
        add = λ f xs ys.
            sum-ext t _ _
            (λ i _.
            ap (λ a. product k m a (x i)) (added-at f xs ys i) ∙ add-product k m (get_or xs i 0) (product k m f (get_or ys i 0)) (x i)
            ∙ ap (λ s. product k m (get_or xs i 0) (x i) ⊕ s) (product-assoc k m f (get_or ys i 0) (x i)))
            ∙ sum-add t (λ i. product k m (get_or xs i 0) (x i)) (λ i. product k m f (product k m (get_or ys i 0) (x i)))
            ∙ ap (λ s. sum_below t (λ i. product k m (get_or xs i 0) (x i)) ⊕ s) (sum-scale k m t f (λ i. product k m (get_or ys i 0) (x i)));
        keeps = λ xs h. sum_lt k t _ (λ i _. product_lt k m (get_or xs i 0) (x i));
      }

-- ---- an exchange
module _ (M : List (List ℕ)) (i j : ℕ) (hi : i < length M) (hj : j < length M) where
  pub exchanged-second : row (exchanged M i j) j ≡ row M i
  exchanged-second = get_or-set_same (set M i (row M j)) j (row M i) [] (simp length-set hj)

  pub exchanged-first : row (exchanged M i j) i ≡ row M j
  exchanged-first = go (ℕ_discrete i j)
    where
      go : Dec (i ≡ j) → row (exchanged M i j) i ≡ row M j
      go (yes e) = ap (row (exchanged M i j)) e ∙ exchanged-second ∙ ap (row M) e
      go (no n) = get_or-set_other (set M i (row M j)) j i (row M i) [] n ∙ get_or-set_same M i (row M j) [] hi

  pub exchanged-other : (e : ℕ) → (e ≡ i → ⊥) → (e ≡ j → ⊥) → row (exchanged M i j) e ≡ row M e
  exchanged-other e ni nj = get_or-set_other (set M i (row M j)) j e (row M i) [] nj ∙ get_or-set_other M i e (row M j) [] ni

pub length_exchanged : (M : List (List ℕ)) (i j : ℕ) → length (exchanged M i j) ≡ length M
length_exchanged M i j = simp length-set

module _ (k m : ℕ) (M : List (List ℕ)) (j : ℕ) where
  -- ---- row j times the inverse of its entry
  pub length-normalized : length (normalized k m M j) ≡ length M
  unfolding normalized
  length-normalized = length-set M j _

  pub normalized-same : j < length M → row (normalized k m M j) j ≡ scaled k m (inverse k m (entry M j j)) (row M j)
  unfolding normalized
  normalized-same h = get_or-set_same M j _ [] h

  pub normalized-other : (e : ℕ) → (e ≡ j → ⊥) → row (normalized k m M j) e ≡ row M e
  unfolding normalized
  normalized-other e n = get_or-set_other M j e _ [] n

  -- ---- the other rows cleared
  cleared-row-cases : (i : ℕ) (P : List (List ℕ) → Type 0) → (i ≡ j → P M) → ((i ≡ j → ⊥) → P (set M i (added k m (entry M i j) (row M i) (row M j))))
      → P (cleared_row k m M j i)
  unfolding cleared_row
  cleared-row-cases i P p q = go (ℕ_discrete i j)
    where
      go : Dec (i ≡ j) → P (cond (eqb i j) M (set M i (added k m (entry M i j) (row M i) (row M j))))
      go (yes e) = rw (eq-eqb i j e) (p e)
      go (no n) = rw (ne_eqb i j n) (q n)

  length-cleared-row : (i : ℕ) → length (cleared_row k m M j i) ≡ length M
  length-cleared-row i = cleared-row-cases i (λ N. length N ≡ length M) (λ _. refl) (λ _. length-set M i _)

  cleared-row-other : (i e : ℕ) → (e ≡ i → ⊥) → row (cleared_row k m M j i) e ≡ row M e
  cleared-row-other i e n = cleared-row-cases i (λ N. row N e ≡ row M e) (λ _. refl) (λ _. get_or-set_other M i e _ [] n)

  cleared-row-pivot : (i : ℕ) → row (cleared_row k m M j i) j ≡ row M j
  cleared-row-pivot i = cleared-row-cases i (λ N. row N j ≡ row M j) (λ _. refl) (λ n. get_or-set_other M i j _ [] (λ e. n (sym e)))

  cleared-row-same : (i : ℕ) → i < length M → (i ≡ j → ⊥) → row (cleared_row k m M j i) i ≡ added k m (entry M i j) (row M i) (row M j)
  cleared-row-same i h n =
      cleared-row-cases i (λ N. row N i ≡ added k m (entry M i j) (row M i) (row M j)) (λ e. absurd (n e)) (λ _. get_or-set_same M i _ [] h)

module _ (k m : ℕ) (M : List (List ℕ)) (j : ℕ) where
  pub length-cleared : (n : ℕ) → length (cleared k m M j n) ≡ length M
  unfolding cleared
  length-cleared zero = refl
  length-cleared (suc n) = length-cleared-row k m (cleared k m M j n) j n ∙ length-cleared n

  pub cleared-pivot : (n : ℕ) → row (cleared k m M j n) j ≡ row M j
  unfolding cleared
  cleared-pivot zero = refl
  cleared-pivot (suc n) = cleared-row-pivot k m (cleared k m M j n) j n ∙ cleared-pivot n

  cleared-after : (n e : ℕ) → n ≤ e → row (cleared k m M j n) e ≡ row M e
  unfolding cleared
  cleared-after zero e h = refl
  cleared-after (suc n) e h = cleared-row-other k m (cleared k m M j n) j n e (omega arith) ∙ cleared-after n e (omega arith)

  pub cleared-other : (n e : ℕ) → e < n → n ≤ length M → (e ≡ j → ⊥) → row (cleared k m M j n) e ≡ added k m (entry M e j) (row M e) (row M j)
  unfolding cleared
  cleared-other zero e l h ne = absurd (omega arith)
  cleared-other (suc n) e l h ne = go (cleared-other n e) (ℕ_discrete e n)
    where
      N : List (List ℕ)
      N = cleared k m M j n

      go : (e < n → n ≤ length M → (e ≡ j → ⊥) → row N e ≡ added k m (entry M e j) (row M e) (row M j)) → Dec (e ≡ n)
          → row (cleared_row k m N j n) e ≡ added k m (entry M e j) (row M e) (row M j)
      go ih (yes q) =
          ap (row (cleared_row k m N j n)) q ∙ cleared-row-same k m N j n (let w = length-cleared n in omega arith) (λ w. ne (q ∙ w))
          ∙ ap₂ (λ xs ys. added k m (get_or xs j 0) xs ys) (cleared-after n n (omega arith) ∙ ap (row M) (sym q)) (cleared-pivot n)
      go ih (no q) = cleared-row-other k m N j n e q ∙ ih (omega arith) (omega arith) ne

-- ---- the pivot: a row whose entry is not 0, or none is there
module _ (M : List (List ℕ)) (j : ℕ) where
  pivot-from-cases : (n i : ℕ) (P : ℕ → Type 0) → ((p : ℕ) → i ≤ p → p < i + n → (entry M p j ≡ 0 → ⊥) → P p)
      → (((e : ℕ) → i ≤ e → e < i + n → entry M e j ≡ 0) → P (i + n)) → P (pivot_from M j n i)
  unfolding pivot_from
  pivot-from-cases zero i P found none = rw add-zero at (none (λ e h l. absurd (omega arith)))
  pivot-from-cases (suc n) i P found none = go (pivot-from-cases n (i + 1) P) (ℕ_discrete (entry M i j) 0)
    where
      go : (((p : ℕ) → i + 1 ≤ p → p < i + 1 + n → (entry M p j ≡ 0 → ⊥) → P p) → (((e : ℕ) → i + 1 ≤ e → e < i + 1 + n → entry M e j ≡ 0) → P (i + 1 + n))
          → P (pivot_from M j n (i + 1)))
          → Dec (entry M i j ≡ 0) → P (cond (eqb (entry M i j) 0) (pivot_from M j n (i + 1)) i)
      go ih (yes z) =
          let w : i + suc n ≡ i + 1 + n = omega arith in
          rw (eq-eqb (entry M i j) 0 z)
          (ih (λ p h l. found p (omega arith) (omega arith))
          (λ zs. subst P w (none (λ e h l. elim (ℕ_discrete e i) [ yes q ↦ ap (λ x. entry M x j) q ∙ z | no q ↦ zs e (omega arith) (omega arith) ]))))
      go ih (no q) = rw (ne_eqb (entry M i j) 0 q) (found i (omega arith) (omega arith) q)

  pub column-cases : (k m t : ℕ) (P : List (List ℕ) → Type 0) → j ≤ t
      → ((p : ℕ) → j ≤ p → p < t → (entry M p j ≡ 0 → ⊥) → P (cleared k m (normalized k m (exchanged M j p) j) j t))
      → (((e : ℕ) → j ≤ e → e < t → entry M e j ≡ 0) → P M) → P (eliminate_column k m M j t)
  unfolding eliminate_column pivot
  column-cases k m t P h found none =
      pivot-from-cases (t - j) j (λ p. P (cond (ltb p t) (cleared k m (normalized k m (exchanged M j p) j) j t) M))
      (λ p l b ne. let d : p < t = omega arith in rw (lt-ltb p t d) (found p l d ne))
      (λ zs. let d : t ≤ j + (t - j) = omega arith in rw (le-ltb (j + (t - j)) t d) (none (λ e l b. zs e l (omega arith))))
