-- Laws: Rows of constants for the free places of a block rebuild.
use Rattle.std.specs.Prelude.{◌≡◌, refl, cond, ◌⊎◌, List, ℕ, zero, suc, ◌+◌, ◌<◌, ◌≤◌, eqb, length, get_or, set, replicate}
use Rattle.std.proofs.Common.{sym, ap, ap₂, ◌∙◌, subst, inl, inr, zero-add, arith, eq-eqb, ne_eqb, length-set, get_or-set_same, get_or-set_other}
use Rattle.std.proofs.Math.Decide.{ℕ_discrete}
use Rattle.binary_field.specs.Xor.{◌⊕◌}
use Rattle.code.specs.Edition.{times}
use Rattle.byte_edition.specs.Edition.{byte_edition}
use Rattle.block_constants.specs.FreeRows.{with_at, mixed, first_of, second_of, Cleared, Mixed, OneRow, TwoRows}

-- ---- a place cleared
-- a list with 0 at place p
set_at : (xs : List ℕ) (p : ℕ) → p < length xs → (q : ℕ) → get_or (set xs p 0) q 0 ≡ with_at p 0 (λ i. get_or xs i 0) q
set_at xs p l q = elim (ℕ_discrete q p) [
  | yes d ↦ (ap (λ k. get_or (set xs p 0) k 0) d ∙ get_or-set_same xs p 0 0 l ∙ sym (ap (λ b. cond b 0 (get_or xs q 0)) (eq-eqb q p d)))
  | no d ↦ (get_or-set_other xs p q 0 0 d ∙ sym (ap (λ b. cond b 0 (get_or xs q 0)) (ne_eqb q p d)))
]

pub cleared : (n p : ℕ) (rows : List ℕ) → p < n → n + n ≤ length rows → Cleared n p rows (set (set rows p 0) (n + p) 0)
cleared n p rows l h = record {
  long = length-set (set rows p 0) (n + p) 0 ∙ length-set rows p 0;
  first = λ q k. get_or-set_other (set rows p 0) (n + p) q 0 0 (λ e. omega arith) ∙ set_at rows p (omega arith) q;
  second = λ q k.
      elim (ℕ_discrete q p) [
        | yes d ↦
            (ap (λ i. get_or (set (set rows p 0) (n + p) 0) (n + i) 0) d ∙ get_or-set_same (set rows p 0) (n + p) 0 0 inside
            ∙ sym (ap (λ b. cond b 0 (get_or rows (n + q) 0)) (eq-eqb q p d)))
        | no d ↦
            (get_or-set_other (set rows p 0) (n + p) (n + q) 0 0 (λ e. d (omega arith)) ∙ get_or-set_other rows p (n + q) 0 0 (λ e. omega arith)
            ∙ sym (ap (λ b. cond b 0 (get_or rows (n + q) 0)) (ne_eqb q p d)))
      ];
}
  where
    inside : n + p < length (set rows p 0)
    inside = let e = length-set rows p 0 in omega arith

-- ---- rows that are known
-- the two rows are a and b
pub record RowsAre (n : ℕ) (rows : List ℕ) (a b : ℕ → ℕ) : Type 0 where
  pub first : (q : ℕ) → q < n → first_of rows q ≡ a q
  pub second : (q : ℕ) → q < n → second_of n rows q ≡ b q

pub rows-own : (n : ℕ) (rows : List ℕ) → RowsAre n rows (first_of rows) (second_of n rows)
rows-own n rows = record { first = λ q l. refl; second = λ q l. refl }

pub rows-cleared : (n p : ℕ) (before after : List ℕ) (a b : ℕ → ℕ) → RowsAre n before a b → Cleared n p before after
    → RowsAre n after (with_at p 0 a) (with_at p 0 b)
rows-cleared n p before after a b R C = record {
  first = λ q l. C.first q l ∙ ap (λ u. cond (eqb q p) 0 u) (R.first q l);
  second = λ q l. C.second q l ∙ ap (λ u. cond (eqb q p) 0 u) (R.second q l);
}

pub mixed-row : (n start f h : ℕ) (rows before after : List ℕ) (a b : ℕ → ℕ) → RowsAre n rows a b → Mixed n start f h rows before after
    → (q : ℕ) → q < n → get_or after (start + q) 0 ≡ mixed f h a b q
mixed-row n start f h rows before after a b R M q l =
    M.here q l ∙ ap₂ (λ u v. times byte_edition u f ⊕ times byte_edition v h) (R.first q l) (R.second q l)

-- ---- the loop that mixes
pub record MixedTo (n start f h : ℕ) (rows before : List ℕ) (i : ℕ) (after : List ℕ) : Type 0 where
  pub long : length after ≡ length before
  pub here : (q : ℕ) → q < i → get_or after (start + q) 0 ≡ mixed f h (first_of rows) (second_of n rows) q
  pub other : (k : ℕ) → (k < start) ⊎ (start + i ≤ k) → get_or after k 0 ≡ get_or before k 0

module _ (n start f h : ℕ) (rows before : List ℕ) (i : ℕ) (after : List ℕ) where
  pub mixed-more : (v : ℕ) → start + i < length after → v ≡ mixed f h (first_of rows) (second_of n rows) i → MixedTo n start f h rows before i after
      → MixedTo n start f h rows before (i + 1) (set after (start + i) v)
  mixed-more v l e M = record {
    long = length-set after (start + i) v ∙ M.long;
    here = λ q b. elim (ℕ_discrete q i) [
      | yes d ↦ (ap (λ k. get_or (set after (start + i) v) (start + k) 0) d ∙ get_or-set_same after (start + i) v 0 l ∙ e ∙ ap (mixed f h (first_of rows)
          (second_of n rows)) (sym d))
      | no d ↦ (get_or-set_other after (start + i) (start + q) v 0 (λ z. d (omega arith)) ∙ M.here q (omega arith))
    ];
    other = λ k s. get_or-set_other after (start + i) k v 0 (λ z. side k s z) ∙ M.other k (part k s);
  }
    where
      side : (k : ℕ) → (k < start) ⊎ (start + (i + 1) ≤ k) → k ≡ start + i → ⊥
      side k (inl s) z = omega arith
      side k (inr s) z = omega arith

      part : (k : ℕ) → (k < start) ⊎ (start + (i + 1) ≤ k) → (k < start) ⊎ (start + i ≤ k)
      part k (inl s) = inl s
      part k (inr s) = inr (omega arith)

  pub mixed-all : n ≤ i → i ≤ n → MixedTo n start f h rows before i after → Mixed n start f h rows before after
  mixed-all l b M =
      let e : i ≡ n = omega arith in
      record { long = M.long; here = λ q k. M.here q (omega arith); other = λ k s. M.other k (subst (λ j. (k < start) ⊎ (start + j ≤ k)) (sym e) s) }

-- ---- the rows that are made
-- a mixture of the rows without place p
pub one-row : (n p : ℕ) (rows middle : List ℕ) (start f h F H : ℕ) (before after : List ℕ) → Cleared n p rows middle → f ≡ F → h ≡ H
    → Mixed n start f h middle before after → (q : ℕ) → q < n
    → get_or after (start + q) 0 ≡ mixed F H (with_at p 0 (first_of rows)) (with_at p 0 (second_of n rows)) q
one-row n p rows middle start f h F H before after C e g M q l =
    mixed-row n start f h middle before after _ _ (rows-cleared n p rows middle _ _ (rows-own n rows) C) M q l
    ∙ ap₂ (λ f h. mixed f h (with_at p 0 (first_of rows)) (with_at p 0 (second_of n rows)) q) e g

-- and without place q
pub two-row : (n p q : ℕ) (rows middle last : List ℕ) (start f h F H : ℕ) (before after : List ℕ) → Cleared n p rows middle → Cleared n q middle last → f ≡ F
    → h ≡ H → Mixed n start f h last before after → (r : ℕ) → r < n
    → get_or after (start + r) 0 ≡ mixed F H (with_at q 0 (with_at p 0 (first_of rows))) (with_at q 0 (with_at p 0 (second_of n rows))) r
two-row n p q rows middle last start f h F H before after C D e g M r l =
    mixed-row n start f h last before after _ _ (rows-cleared n q middle last _ _ (rows-cleared n p rows middle _ _ (rows-own n rows) C) D) M r l
    ∙ ap₂ (λ f h. mixed f h (with_at q 0 (with_at p 0 (first_of rows))) (with_at q 0 (with_at p 0 (second_of n rows))) r) e g

-- ---- what is given back
zeros : (n i : ℕ) → ◌≡◌ {A = ℕ} (get_or (replicate n 0) i 0) 0
zeros zero i = refl
zeros (suc n) zero = refl
zeros (suc n) (suc i) = zeros n i

pub row_made : (n p : ℕ) (rows middle : List ℕ) (f h F H : ℕ) (after : List ℕ) → Cleared n p rows middle → f ≡ F → h ≡ H
    → Mixed n 0 f h middle (replicate 480 0) after → OneRow n (mixed F H (with_at p 0 (first_of rows)) (with_at p 0 (second_of n rows))) after
row_made n p rows middle f h F H after C e g M = record {
  here = λ q l. ap (λ k. get_or after k 0) (sym (zero-add q)) ∙ one-row n p rows middle 0 f h F H (replicate 480 0) after C e g M q l;
  rest = λ k l. M.other k (inr (let z = zero-add n in omega arith)) ∙ zeros 480 k;
}

pub rows_made : (n p q : ℕ) (rows middle last : List ℕ) (f h F H f' h' F' H' : ℕ) (between after : List ℕ) → Cleared n p rows middle → Cleared n q middle last
    → f ≡ F → h ≡ H → f' ≡ F' → h' ≡ H' → Mixed n 0 f h last (replicate 480 0) between → Mixed n n f' h' last between after
    → TwoRows n (mixed F H (with_at q 0 (with_at p 0 (first_of rows))) (with_at q 0 (with_at p 0 (second_of n rows))))
    (mixed F' H' (with_at q 0 (with_at p 0 (first_of rows))) (with_at q 0 (with_at p 0 (second_of n rows)))) after
rows_made n p q rows middle last f h F H f' h' F' H' between after C D e g e' g' M W = record {
  first = λ r l.
      W.other r (inl l) ∙ ap (λ k. get_or between k 0) (sym (zero-add r)) ∙ two-row n p q rows middle last 0 f h F H (replicate 480 0) between C D e g M r l;
  second = two-row n p q rows middle last n f' h' F' H' between after C D e' g' W;
  rest = λ k l. W.other k (inr l) ∙ M.other k (inr (let z = zero-add n in omega arith)) ∙ zeros 480 k;
}
