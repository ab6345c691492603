-- Laws: What elimination keeps: that entries are small, where a linear function of the rows is 0, and the columns that are done.
use Rattle.std.specs.Prelude.{◌≡◌, List, ◌↔◌, ℕ, suc, ◌^◌, ◌≤◌, ◌<◌, T, length, get_or}
use Rattle.std.proofs.Common.{sym, ap, ◌∙◌, mod-eq_of_lt, arith, eq-eqb, ne_eqb}
use mathlib.Core.Logic.Iff
use Rattle.std.proofs.Math.Decide.{ℕ_discrete}
use Rattle.binary_field.specs.Xor.{◌⊕◌}
use Rattle.binary_field.specs.XorLaws.{⊕-zero-r, ⊕-lt, ⊕-self}
use Rattle.binary_field.specs.Product.{product}
use Rattle.binary_field.specs.ProductLaws.{product_lt, product-zero, product-one, product-comm, product-assoc, one_product}
use Rattle.binary_field.specs.Inverse.{is_field, inverse}
use Rattle.binary_field.specs.InverseLaws.{product-inverse}
use Rattle.code_engine.specs.Elimination.{row, entry, exchanged, normalized, cleared, eliminate_column}
use Rattle.code_engine.specs.EliminationRows.{Small, Linear}
use Rattle.code_engine.specs.EliminationRowsLaws.{scaled_at, added-at, exchanged-first, exchanged-second, exchanged-other, length_exchanged}
use Rattle.code_engine.specs.EliminationRowsLaws.{length-normalized}
use Rattle.code_engine.specs.EliminationRowsLaws.{normalized-same, normalized-other, length-cleared, cleared-pivot, cleared-other, column-cases}
use Rattle.code_engine.specs.EliminationSteps.{Every, System, identity, Reduced}

pub identity-same : (e c : ℕ) → e ≡ c → identity e c ≡ 1
identity-same e c h = rw (eq-eqb e c h)

pub identity-other : (e c : ℕ) → (e ≡ c → ⊥) → identity e c ≡ 0
identity-other e c h = rw (ne_eqb e c h)

-- ---- an exchange
-- two matrices that differ by one
crossed : (Q : ℕ → List ℕ → Type 0) (A B : List (List ℕ)) (i j t : ℕ) → ((xs : List ℕ) → Q j xs → Q i xs) → ((xs : List ℕ) → Q i xs → Q j xs)
    → i < t → j < t → row A i ≡ row B j → row A j ≡ row B i → ((e : ℕ) → (e ≡ i → ⊥) → (e ≡ j → ⊥) → row A e ≡ row B e)
    → ((e : ℕ) → e < t → Q e (row B e)) → (e : ℕ) → e < t → Q e (row A e)
crossed Q A B i j t qi qj hi hj ei ej other q e h = elim (ℕ_discrete e i) [
  | yes w ↦ (rw (w, ei) (qi (row B j) (q j hj)))
  | no n ↦ elim (ℕ_discrete e j) [ yes w ↦ (rw (w, ej) (qj (row B i) (q i hi))) | no w ↦ (rw (other e n w) (q e h)) ]
]

module _ (M : List (List ℕ)) (t i j : ℕ) (long : t ≤ length M) (hi : i < t) (hj : j < t) where
  li : i < length M
  li = omega arith

  lj : j < length M
  lj = omega arith

  exchanged-every : (Q : ℕ → List ℕ → Type 0) → ((xs : List ℕ) → Q j xs → Q i xs) → ((xs : List ℕ) → Q i xs → Q j xs)
      → ((e : ℕ) → e < t → Q e (row M e)) → (e : ℕ) → e < t → Q e (row (exchanged M i j) e)
  exchanged-every Q qi qj =
      crossed Q (exchanged M i j) M i j t qi qj hi hj (exchanged-first M i j li lj) (exchanged-second M i j li lj) (exchanged-other M i j li lj)

  exchanged-iff : (Q : List ℕ → Type 0) → Every Q M t ↔ Every Q (exchanged M i j) t
  exchanged-iff Q = (
    exchanged-every (λ _. Q) (λ _ q. q) (λ _ q. q),
    crossed (λ _. Q) M (exchanged M i j) i j t (λ _ q. q) (λ _ q. q) hi hj (sym (exchanged-second M i j li lj)) (sym (exchanged-first M i j li lj))
        (λ e n w. sym (exchanged-other M i j li lj e n w)),
  )

-- what the inverse of a takes to 0 is 0
undo : (k m : ℕ) (pos : 0 < k) (ts : List ℕ) → T (is_field k m ts) → (a y : ℕ) → a < 2 ^ k → (a ≡ 0 → ⊥) → y < 2 ^ k → product k m (inverse k m a) y ≡ 0 → y ≡ 0
undo k m pos ts ok a y ha ne h z =
    sym (mod-eq_of_lt h) ∙ sym (one_product k m pos y) ∙ ap (λ x. product k m x y) (sym (product-inverse k m pos ts ok a ha ne))
    ∙ product-assoc k m a (inverse k m a) y ∙ ap (product k m a) z ∙ product-zero k m a

-- ---- one step: an exchange that brings the pivot p to row j, the pivot made 1, the other rows cleared
module _ (k m : ℕ) (pos : 0 < k) (ts : List ℕ) (ok : T (is_field k m ts)) (M : List (List ℕ)) (t j : ℕ) (S : System k M t) (hj : j < t) where
  there : j < length M
  there = let w = S.long in omega arith

  -- row j made 1 in column j
  normalized-system : System k (normalized k m M j) t
  normalized-system = record { long = let w = S.long in let v = length-normalized k m M j in omega arith; small = small }
    where
      small : Every (Small k) (normalized k m M j) t
      small e h c = elim (ℕ_discrete e j) [
        | yes w ↦ (rw (w, normalized-same k m M j there, scaled_at) (product_lt k m _ _))
        | no w ↦ (rw (normalized-other k m M j e w) (S.small e h c))
      ]

  module _ (ne : entry M j j ≡ 0 → ⊥) where
    module _ (L : List ℕ → ℕ) (l : Linear k m L) where
      normalized-zero : Every (λ xs. L xs ≡ 0) M t ↔ Every (λ xs. L xs ≡ 0) (normalized k m M j) t
      normalized-zero = (forth, back)
        where
          forth : Every (λ xs. L xs ≡ 0) M t → Every (λ xs. L xs ≡ 0) (normalized k m M j) t
          forth q e h = elim (ℕ_discrete e j) [
            | yes w ↦ (rw (w, normalized-same k m M j there, l.scale) (ap (product k m _) (q j hj) ∙ product-zero k m _))
            | no w ↦ (rw (normalized-other k m M j e w) (q e h))
          ]

          back : Every (λ xs. L xs ≡ 0) (normalized k m M j) t → Every (λ xs. L xs ≡ 0) M t
          back q e h = elim (ℕ_discrete e j) [
            | yes w ↦ (rw w (undo k m pos ts ok (entry M j j) (L (row M j)) (S.small j hj j) ne (l.keeps (row M j) (S.small j hj))
                (rw (normalized-same k m M j there, l.scale) at (q j hj))))
            | no w ↦ (rw (normalized-other k m M j e w) at (q e h))
          ]

    normalized-reduced : Reduced M j t → Reduced (normalized k m M j) j t
    normalized-reduced r e h c hc = elim (ℕ_discrete e j) [
      | yes w ↦ (rw (w, normalized-same k m M j there, scaled_at, r j hj c hc) (ap (product k m _) (identity-other j c (omega arith)) ∙ product-zero k m _
          ∙ sym (identity-other j c (omega arith))))
      | no w ↦ (rw (normalized-other k m M j e w) (r e h c hc))
    ]

    normalized-pivot : entry (normalized k m M j) j j ≡ 1
    normalized-pivot =
        rw (normalized-same k m M j there, scaled_at) (product-comm k m _ _ ∙ product-inverse k m pos ts ok (entry M j j) (S.small j hj j) ne)

  -- the other rows cleared
  cleared-system : System k (cleared k m M j t) t
  cleared-system = record { long = let w = S.long in let v = length-cleared k m M j t in omega arith; small = small }
    where
      small : Every (Small k) (cleared k m M j t) t
      small e h c = elim (ℕ_discrete e j) [
        | yes w ↦ (rw (w, cleared-pivot k m M j t) (S.small j hj c))
        | no w ↦ (rw (cleared-other k m M j t e h S.long w, added-at) (⊕-lt k _ _ (S.small e h c) (product_lt k m _ _)))
      ]

  module _ (L : List ℕ → ℕ) (l : Linear k m L) where
    -- a row changes by a multiple of 0
    cleared-same : L (row M j) ≡ 0 → (e : ℕ) → e < t → L (row (cleared k m M j t) e) ≡ L (row M e)
    cleared-same z e h = elim (ℕ_discrete e j) [
      | yes w ↦ (rw (w, cleared-pivot k m M j t))
      | no w ↦ (rw (cleared-other k m M j t e h S.long w, l.add) (ap (λ x. L (row M e) ⊕ x) (ap (product k m _) z ∙ product-zero k m _) ∙ ⊕-zero-r _))
    ]

    cleared-zero : Every (λ xs. L xs ≡ 0) M t ↔ Every (λ xs. L xs ≡ 0) (cleared k m M j t) t
    cleared-zero = (λ q e h. cleared-same (q j hj) e h ∙ q e h, λ q e h. sym (cleared-same (rw (cleared-pivot k m M j t) at (q j hj)) e h) ∙ q e h)

  cleared-reduced : Reduced M j t → entry M j j ≡ 1 → Reduced (cleared k m M j t) (suc j) t
  cleared-reduced r one e h c hc = elim (ℕ_discrete e j) [
    | yes w ↦ (rw (w, cleared-pivot k m M j t) (at-pivot c hc))
    | no w ↦ (rw (cleared-other k m M j t e h S.long w, added-at, at-pivot c hc) (other w))
  ]
    where
      at-pivot : (c : ℕ) → c < suc j → entry M j c ≡ identity j c
      at-pivot c hc = elim (ℕ_discrete j c) [
        | yes q ↦ (sym (ap (entry M j) q) ∙ one ∙ sym (identity-same j c q))
        | no q ↦ r j hj c (omega arith)
      ]

      other : (e ≡ j → ⊥) → entry M e c ⊕ product k m (entry M e j) (identity j c) ≡ identity e c
      other w = elim (ℕ_discrete j c) [
        | yes q ↦ (rw (identity-same j c q, product-one k m pos (entry M e j) (S.small e h j))
            (ap (λ x. entry M e x ⊕ entry M e j) (sym q) ∙ ⊕-self (entry M e j) ∙ sym (identity-other e c (λ v. w (v ∙ sym q)))))
        | no q ↦ (rw (identity-other j c q, product-zero) (⊕-zero-r (entry M e c) ∙ r e h c (omega arith)))
      ]

-- ---- a column
module _ (k m : ℕ) (pos : 0 < k) (ts : List ℕ) (ok : T (is_field k m ts)) (M : List (List ℕ)) (t j : ℕ) (S : System k M t) (hj : j < t) where
  -- with the pivot p
  module _ (p : ℕ) (hp : p < t) (ne : entry M p j ≡ 0 → ⊥) where
    exchanged-system : System k (exchanged M j p) t
    exchanged-system =
        record {
          long = let w = S.long in let v = length_exchanged M j p in omega arith;
          small =
              (exchanged-iff M t j p S.long hj hp (Small k)).0 S.small;
        }

    nonzero : entry (exchanged M j p) j j ≡ 0 → ⊥
    nonzero z = let w = S.long in ne (sym (ap (λ xs. get_or xs j 0) (exchanged-first M j p (omega arith) (omega arith))) ∙ z)

    unit-system : System k (normalized k m (exchanged M j p) j) t
    unit-system = normalized-system k m pos ts ok (exchanged M j p) t j exchanged-system hj

    found-zero : (L : List ℕ → ℕ) → Linear k m L
        → Every (λ xs. L xs ≡ 0) M t ↔ Every (λ xs. L xs ≡ 0) (cleared k m (normalized k m (exchanged M j p) j) j t) t
    found-zero L l =
        Iff.trans (exchanged-iff M t j p S.long hj hp (λ xs. L xs ≡ 0))
        (Iff.trans (normalized-zero k m pos ts ok (exchanged M j p) t j exchanged-system hj nonzero L l)
        (cleared-zero k m pos ts ok (normalized k m (exchanged M j p) j) t j unit-system hj L l))

    found-reduced : j ≤ p → Reduced M j t → Reduced (cleared k m (normalized k m (exchanged M j p) j) j t) (suc j) t
    found-reduced h r =
        cleared-reduced k m pos ts ok (normalized k m (exchanged M j p) j) t j unit-system hj
        (normalized-reduced k m pos ts ok (exchanged M j p) t j exchanged-system hj nonzero
        (exchanged-every M t j p S.long hj hp (λ e xs. (c : ℕ) → c < j → get_or xs c 0 ≡ identity e c)
        (λ xs q c l. q c l ∙ identity-other p c (omega arith) ∙ sym (identity-other j c (omega arith)))
        (λ xs q c l. q c l ∙ identity-other j c (omega arith) ∙ sym (identity-other p c (omega arith))) r))
        (normalized-pivot k m pos ts ok (exchanged M j p) t j exchanged-system hj nonzero)

  pub column-system : System k (eliminate_column k m M j t) t
  column-system =
      column-cases M j k m t (λ A. System k A t) (omega arith)
      (λ p _ hp ne. cleared-system k m pos ts ok (normalized k m (exchanged M j p) j) t j (unit-system p hp ne) hj) (λ _. S)

  pub column-zero : (L : List ℕ → ℕ) → Linear k m L → Every (λ xs. L xs ≡ 0) M t ↔ Every (λ xs. L xs ≡ 0) (eliminate_column k m M j t) t
  column-zero L l =
      column-cases M j k m t (λ A. Every (λ xs. L xs ≡ 0) M t ↔ Every (λ xs. L xs ≡ 0) A t) (omega arith)
      (λ p _ hp ne. found-zero p hp ne L l) (λ _. Iff.rfl)

  pub column-reduced : (((e : ℕ) → j ≤ e → e < t → entry M e j ≡ 0) → ⊥) → Reduced M j t → Reduced (eliminate_column k m M j t) (suc j) t
  column-reduced some r =
      column-cases M j k m t (λ A. Reduced A (suc j) t) (omega arith) (λ p h hp ne. found-reduced p hp ne h r) (λ zs. absurd (some zs))
