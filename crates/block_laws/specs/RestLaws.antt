-- Laws: What is left for the two sums across.
use Rattle.std.specs.Prelude.{◌≡◌, List, [], ◌∷◌, ℕ, zero, suc, ◌+◌, ◌*◌, ◌<◌, ◌≤◌, length, get_or}
use Rattle.std.proofs.Common.{sym, ap, ap₂, ◌∙◌, zero-add, zero-mul, one-mul, add-mul, add_assoc, arith}
use Rattle.binary_field.specs.Product.{product}
use Rattle.binary_field.specs.ProductLaws.{product-comm}
use Rattle.binary_field.specs.Inverse.{inverse}
use Rattle.binary_field.specs.InverseLaws.{product-inverse}
use Rattle.binary_field.specs.Xor.{◌⊕◌}
use Rattle.binary_field.specs.SumLaws.{sum-ext}
use Rattle.code.specs.Edition.{times}
use Rattle.byte_edition.specs.Edition.{byte_edition}
use Rattle.byte_edition.specs.EditionLaws.{bytes-sound}
use Rattle.block_sums.specs.Sums.{block_sum, ZeroUntil, Aimed, SumsWritten}
use Rattle.code.specs.Stretch.{stretch}
use Rattle.block_constants.specs.FreeRows.{first_of, second_of, one_value, two_first, two_second, determinant_inverse}
use Rattle.block_laws.specs.Steps.{Limit, place_symbol, AcrossRows}
use Rattle.block_laws.specs.StepsLaws.{row_inside}
use Rattle.block_laws.specs.PassLaws.{stands-ext, sums-stay}
use Rattle.block_laws.specs.Whole.{row_sum, Across}
use Rattle.block_laws.specs.Free.{OneSolved, TwoSolved}
use Rattle.block_laws.specs.FreeLaws.{one-first, two-solved}
use Rattle.block_laws.specs.Rest.{BothZero, OneWritten, TwoWritten}

-- ---- the factors
inverse-times : (a : ℕ) → a < 256 → (a ≡ 0 → ⊥) → times byte_edition a (inverse 8 285 a) ≡ 1
inverse-times a l n = product-inverse 8 285 bytes-sound.facts.pos bytes-sound.facts.values bytes-sound.facts.tested a l n

-- the factors solve what they shall
pub one-solved : (a b : ℕ) → a < 256 → b < 256 → (a ≡ 0 → ⊥) → OneSolved a b (inverse 8 285 a) 0 (times byte_edition b (inverse 8 285 a)) 1
one-solved a b la lb some = one-first a b (inverse 8 285 a) la lb (inverse-times a la some)

pub two-factors : (p : ℕ) (a b : ℕ → ℕ) (q : ℕ) → times byte_edition (a p) (b q) ⊕ times byte_edition (a q) (b p) < 256
    → (times byte_edition (a p) (b q) ⊕ times byte_edition (a q) (b p) ≡ 0 → ⊥)
    → TwoSolved (a p) (a q) (b p) (b q) (times byte_edition (determinant_inverse p a b q) (b q)) (times byte_edition (determinant_inverse p a b q) (a q))
    (times byte_edition (determinant_inverse p a b q) (b p)) (times byte_edition (determinant_inverse p a b q) (a p))
two-factors p a b q l some = two-solved (a p) (a q) (b p) (b q) (determinant_inverse p a b q) (inverse-times _ l some)

-- ---- sums of all blocks
pub sum_row : (size : ℕ) (blocks : List ℕ) (n : ℕ) (constants : List ℕ) (i x : ℕ) (a : ℕ → ℕ) → ((q : ℕ) → q < n → get_or constants (i * n + q) 0 ≡ a q)
    → block_sum size blocks 0 n constants i x ≡ row_sum n (place_symbol size blocks x) a
unfolding block_sum row_sum
sum_row size blocks n constants i x a e =
    sum-ext n _ _ (λ q l.
    ap₂ (λ k j. product 8 285 k (get_or blocks (j * size + x) 0)) (e q l) (zero-add q) ∙ product-comm 8 285 (a q) _)

-- the two rows across as they are
pub rows-limit : (size : ℕ) (blocks : List ℕ) (n : ℕ) (rows : List ℕ) (limit r : ℕ) → ZeroUntil size blocks 0 n 2 rows limit r
    → Limit limit r (λ x. BothZero n (first_of rows) (second_of n rows) (place_symbol size blocks x))
rows-limit size blocks n rows limit r Z = record {
  most = Z.most;
  holds = λ x l. (sym (first x) ∙ Z.zero x l 0 (omega arith), sym (second x) ∙ Z.zero x l 1 (omega arith));
  stops = λ l q. Z.stop l (λ i h. go i h q);
}
  where
    first : (x : ℕ) → block_sum size blocks 0 n rows 0 x ≡ row_sum n (place_symbol size blocks x) (first_of rows)
    first x = sum_row size blocks n rows 0 x (first_of rows) (λ q l. ap (λ k. get_or rows k 0) (ap (λ j. j + q) (zero-mul n) ∙ zero-add q))

    second : (x : ℕ) → block_sum size blocks 0 n rows 1 x ≡ row_sum n (place_symbol size blocks x) (second_of n rows)
    second x = sum_row size blocks n rows 1 x (second_of n rows) (λ q l. ap (λ k. get_or rows (k + q) 0) (one-mul n))

    go : (i : ℕ) → i < 2 → BothZero n (first_of rows) (second_of n rows) (place_symbol size blocks r) → block_sum size blocks 0 n rows i r ≡ 0
    go zero h q = first r ∙ q.0
    go (suc zero) h q = second r ∙ q.1
    go (suc (suc i)) h q = absurd (omega arith)

-- a row at the front
front : (n : ℕ) (row : List ℕ) (a : ℕ → ℕ) → ((q : ℕ) → q < n → get_or row q 0 ≡ a q) → (q : ℕ) → q < n → get_or row (0 * n + q) 0 ≡ a q
front n row a e q l = ap (λ k. get_or row (k + q) 0) (zero-mul n) ∙ ap (λ k. get_or row k 0) (zero-add q) ∙ e q l

-- and the one after it
next : (n : ℕ) (row : List ℕ) (a : ℕ → ℕ) → ((q : ℕ) → q < n → get_or row (n + q) 0 ≡ a q) → (q : ℕ) → q < n → get_or row (1 * n + q) 0 ≡ a q
next n row a e q l = ap (λ k. get_or row (k + q) 0) (one-mul n) ∙ e q l

pub row-limit : (size : ℕ) (blocks : List ℕ) (n : ℕ) (row : List ℕ) (a : ℕ → ℕ) → ((q : ℕ) → q < n → get_or row q 0 ≡ a q) → (limit r : ℕ)
    → ZeroUntil size blocks 0 n 1 row limit r → Limit limit r (λ x. row_sum n (place_symbol size blocks x) a ≡ 0)
row-limit size blocks n row a e limit r Z = record {
  most = Z.most;
  holds = λ x l. sym (sum x) ∙ Z.zero x l 0 (omega arith);
  stops = λ l q. Z.stop l (λ i h. let e : i ≡ 0 = omega arith in ap (λ k. block_sum size blocks 0 n row k r) e ∙ sum r ∙ q);
}
  where
    sum : (x : ℕ) → block_sum size blocks 0 n row 0 x ≡ row_sum n (place_symbol size blocks x) a
    sum x = sum_row size blocks n row 0 x a (front n row a e)

-- ---- the free blocks
module _ (size : ℕ) (before : List ℕ) (n p : ℕ) (row after : List ℕ) (a b : ℕ → ℕ) where
  pub one_written : ((q : ℕ) → q < n → get_or row q 0 ≡ one_value p a b q) → SumsWritten size before 0 n 1 row (p ∷ 0 ∷ 0 ∷ 0 ∷ []) after
      → OneWritten p a b n size before after
  one_written e W = record {
    long = W.long;
    here = λ x l. W.here 0 (omega arith) (λ j h k z. absurd (omega arith)) x l ∙ sum_row size before n row 0 x _ (front n row _ e);
    other = λ r x l d. sums-stay size before 0 n 1 row _ after W r x l (λ i h z. d (sym (go i h z)));
  }
    where
      go : {r : ℕ} (i : ℕ) → i < 1 → get_or (p ∷ 0 ∷ 0 ∷ 0 ∷ []) i 0 ≡ r → p ≡ r
      go zero h z = z
      go (suc i) h z = absurd (omega arith)

  pub two-written : (q : ℕ) → ¬ (q ≡ p) → ((r : ℕ) → r < n → get_or row r 0 ≡ two_first p a b q r)
      → ((r : ℕ) → r < n → get_or row (n + r) 0 ≡ two_second p a b q r)
      → SumsWritten size before 0 n 2 row (p ∷ q ∷ 0 ∷ 0 ∷ []) after → TwoWritten p a b q n size before after
  two-written q d e f W = record {
    long = W.long;
    here = λ x l. W.here 0 (omega arith) (λ j h k z. later j h k z) x l ∙ sum_row size before n row 0 x _ (front n row _ e);
    there = λ x l. W.here 1 (omega arith) (λ j h k z. absurd (omega arith)) x l ∙ sum_row size before n row 1 x _ (next n row _ f);
    other = λ r x l u v. sums-stay size before 0 n 2 row _ after W r x l (λ i h z. go r u v i h z);
  }
    where
      later : (j : ℕ) → 0 < j → j < 2 → get_or (p ∷ q ∷ 0 ∷ 0 ∷ []) j 0 ≡ p → ⊥
      later zero h k z = omega arith
      later (suc zero) h k z = d z
      later (suc (suc j)) h k z = omega arith

      go : (r : ℕ) → ¬ (r ≡ p) → ¬ (r ≡ q) → (i : ℕ) → i < 2 → get_or (p ∷ q ∷ 0 ∷ 0 ∷ []) i 0 ≡ r → ⊥
      go r u v zero h z = u (sym z)
      go r u v (suc zero) h z = v (sym z)
      go r u v (suc (suc i)) h z = omega arith

-- a block named lies within the blocks
inside : (size : ℕ) (blocks : List ℕ) (n p : ℕ) → p < n → n * size ≤ length blocks → (p + 1) * size ≤ length blocks
inside size blocks n p l h = let e = add-mul p 1 size in let o = one-mul size in let k = row_inside p n size l in omega arith

pub aimed-one : (size : ℕ) (blocks : List ℕ) (n p : ℕ) → p < n → n * size ≤ length blocks → Aimed size blocks 1 (p ∷ 0 ∷ 0 ∷ 0 ∷ [])
aimed-one size blocks n p l h = record { inside = go }
  where
    go : (i : ℕ) → i < 1 → (get_or (p ∷ 0 ∷ 0 ∷ 0 ∷ []) i 0 + 1) * size ≤ length blocks
    go zero k = inside size blocks n p l h
    go (suc i) k = absurd (omega arith)

pub aimed-two : (size : ℕ) (blocks : List ℕ) (n p q : ℕ) → p < n → q < n → n * size ≤ length blocks → Aimed size blocks 2 (p ∷ q ∷ 0 ∷ 0 ∷ [])
aimed-two size blocks n p q l k h = record { inside = go }
  where
    go : (i : ℕ) → i < 2 → (get_or (p ∷ q ∷ 0 ∷ 0 ∷ []) i 0 + 1) * size ≤ length blocks
    go zero _ = inside size blocks n p l h
    go (suc zero) _ = inside size blocks n q k h
    go (suc (suc i)) o = absurd (omega arith)

-- the rows across as functions of the place
module _ (m w c : ℕ) (bound rows : List ℕ) (A : AcrossRows m w c bound rows) where
  pub across-first : Across m w c bound 4 (first_of rows)
  across-first g l = A.first g l

  pub across-second : Across m w c bound 5 (second_of (m * w) rows)
  across-second g l =
      stands-ext w c g (stretch w g bound) 5 _ _ (λ j h. ap (λ k. get_or rows k 0) (ap (λ k. k + j) (add-mul m g w) ∙ add_assoc (m * w) (g * w) j))
      (A.second g l)
