-- Laws: how a table is made.
use Rattle.std.specs.Prelude.{◌≡◌, refl, List, ℕ, zero, suc, ◌+◌, ◌-◌, ◌*◌, ◌^◌, ◌≤◌, ◌<◌, length, get_or, take, drop, replicate}
use Rattle.std.proofs.Common.{sym, ap, ap₂, ◌∙◌, zero-add, arith, pow_pos, pow_mono}
use Rattle.std.proofs.Math.Decide.{dec_lt, ℕ_discrete}
use Rattle.binary_field.specs.Xor.{◌⊕◌}
use Rattle.binary_field.specs.XorLaws.{⊕-zero-r}
use Rattle.block_tables.specs.Table.{chosen, IsTable, IsTables, RowsMade, Loaded, TableMade}
use Rattle.block_tables.specs.StoreLaws.{lent_at, zeros-at}
use Rattle.block_tables.specs.ChosenLaws.{chosen_none, chosen-ext, chosen-high, chosen-one, chosen-zeros}

-- the rows below h are the sums that their numbers choose of bytes y
abbrev pub Right : (ℕ → ℕ → ℕ) → ℕ → List ℕ → Type 0
Right y h t = (v i : ℕ) → v < h → i < 96 → get_or t (v * 96 + i) 0 ≡ chosen 4 v (λ e. y e i)

module _ (y : ℕ → ℕ → ℕ) (e : ℕ) (few : e < 4) (before after : List ℕ) (made : RowsMade (2 ^ e) before after)
    (single : (i : ℕ) → i < 96 → get_or before (2 ^ e * 96 + i) 0 ≡ y e i) (right : Right y (2 ^ e) before) where
  here : (u i : ℕ) → u < 2 ^ e → i < 96 → get_or after ((2 ^ e + u) * 96 + i) 0 ≡ y e i ⊕ chosen 4 u (λ k. y k i)
  here u i l h = elim (ℕ_discrete u 0) [
    | yes z ↦
        (let q : (2 ^ e + u) * 96 + i ≡ 2 ^ e * 96 + i = omega arith in
        ap (λ k. get_or after k 0) q ∙ made.below (2 ^ e * 96 + i) (omega arith) ∙ single i h
        ∙ sym (ap (λ v. y e i ⊕ chosen 4 v (λ k. y k i)) z ∙ ap (λ s. y e i ⊕ s) (chosen_none 4 (λ k. y k i)) ∙ ⊕-zero-r (y e i)))
    | no n ↦ made.here u i (omega arith) l h ∙ ap₂ ◌⊕◌ (single i h) (right u i l h)
  ]

  -- twice as many
  pub right-more : (h : ℕ) → h ≡ 2 ^ e + 2 ^ e → Right y h after
  right-more h q v i l k = elim (dec_lt v (2 ^ e)) [
    | yes s ↦ made.below (v * 96 + i) (omega arith) ∙ right v i s k
    | no s ↦
        (let d : 2 ^ e + (v - 2 ^ e) ≡ v = omega arith in
        let b : v - 2 ^ e < 2 ^ e = omega arith in
        ap (λ x. get_or after (x * 96 + i) 0) (sym d) ∙ here (v - 2 ^ e) i b k
        ∙ sym (chosen-high 4 e (v - 2 ^ e) (λ x. y x i) few b) ∙ ap (λ x. chosen 4 x (λ z. y z i)) d)
  ]

-- all sixteen rows: a table
pub right-table : (y : ℕ → ℕ → ℕ) (t : List ℕ) → Right y 16 t → IsTable t
right-table y t right = record {
  each = λ v i l h. right v i l h ∙ chosen-ext 4 v (λ e. y e i) (λ e. get_or t (2 ^ e * 96 + i) 0) (λ e k. sym (single e i k h));
}
  where
    small : (e : ℕ) → e < 4 → 2 ^ e < 16
    small zero k = omega arith
    small (suc zero) k = omega arith
    small (suc (suc zero)) k = omega arith
    small (suc (suc (suc zero))) k = omega arith
    small (suc (suc (suc (suc e)))) k = absurd (omega arith)

    single : (e i : ℕ) → e < 4 → i < 96 → get_or t (2 ^ e * 96 + i) 0 ≡ y e i
    single e i k h = right (2 ^ e) i (small e k) h ∙ chosen-one 4 e (λ x. y x i) k (pow_pos e)

-- row 0 of a table is 0
pub zero_row : (t : List ℕ) → IsTable t → (i : ℕ) → i < 96 → get_or t i 0 ≡ 0
zero_row t T i h = ap (λ k. get_or t k 0) (sym (zero-add i)) ∙ T.each 0 i (omega arith) h ∙ chosen_none 4 _

-- ---- the steps that make one
module _ (size at have n : ℕ) (blocks before loaded two four all : List ℕ) (T : IsTable before) (L : Loaded size at have n blocks before loaded)
    (A : RowsMade 2 loaded two) (B : RowsMade 4 two four) (C : RowsMade 8 four all) (long : length before ≡ 1536) (few : n ≤ 96) where
  abbrev y : ℕ → ℕ → ℕ
  y e i = get_or loaded (2 ^ e * 96 + i) 0

  first : Right y 2 loaded
  first zero i l h = ap (λ k. get_or loaded k 0) (zero-add i) ∙ L.zero i h ∙ zero_row before T i h ∙ sym (chosen_none 4 (λ e. y e i))
  first (suc zero) i l h = sym (chosen-one 4 0 (λ e. y e i) (omega arith) (omega arith))
  first (suc (suc v)) i l h = absurd (omega arith)

  second : Right y 4 two
  second = right-more y 1 (omega arith) loaded two A (λ i h. refl) first 4 refl

  third : Right y 8 four
  third = right-more y 2 (omega arith) two four B (λ i h. A.above (384 + i) (omega arith)) second 8 refl

  fourth : Right y 16 all
  fourth = right-more y 3 (omega arith) four all C (λ i h. B.above (768 + i) (omega arith) ∙ A.above (768 + i) (omega arith)) third 16 refl

  -- the rows 1, 2, 4, 8 are as they were loaded
  kept : (e i : ℕ) → e < 4 → i < 96 → get_or all (2 ^ e * 96 + i) 0 ≡ get_or loaded (2 ^ e * 96 + i) 0
  kept zero i l h = C.below (96 + i) (omega arith) ∙ B.below (96 + i) (omega arith) ∙ A.below (96 + i) (omega arith)
  kept (suc zero) i l h = C.below (192 + i) (omega arith) ∙ B.below (192 + i) (omega arith) ∙ A.below (192 + i) (omega arith)
  kept (suc (suc zero)) i l h = C.below (384 + i) (omega arith) ∙ B.below (384 + i) (omega arith) ∙ A.above (384 + i) (omega arith)
  kept (suc (suc (suc zero))) i l h = C.below (768 + i) (omega arith) ∙ B.above (768 + i) (omega arith) ∙ A.above (768 + i) (omega arith)
  kept (suc (suc (suc (suc e)))) i l h = absurd (omega arith)

  pub table-made : TableMade size at have n blocks all
  table-made = record {
    long = C.long ∙ B.long ∙ A.long ∙ L.long ∙ long;
    table = right-table y all fourth;
    here = λ e i l k h. kept e i l (omega arith) ∙ L.here e i l k h;
  }

-- ---- four tables, one of them made anew
module _ (s : ℕ) (l : s < 4) (t part after : List ℕ) (T : IsTables t) (P : IsTable part)
    (here : (j : ℕ) → j < 1536 → get_or after (s * 1536 + j) 0 ≡ get_or part j 0)
    (below : (p : ℕ) → p < s * 1536 → get_or after p 0 ≡ get_or t p 0)
    (above : (p : ℕ) → s * 1536 + 1536 ≤ p → get_or after p 0 ≡ get_or t p 0) where
  narrow : (e : ℕ) → e < 4 → 2 ^ e ≤ 8
  narrow e h = let k : e ≤ 3 = omega arith in pow_mono k

  -- a byte of another table stays
  pub stays : (q j : ℕ) → (q ≡ s → ⊥) → j < 1536 → get_or after (q * 1536 + j) 0 ≡ get_or t (q * 1536 + j) 0
  stays q j n h = elim (dec_lt q s) [
    | yes k ↦ below (q * 1536 + j) (omega arith)
    | no k ↦ above (q * 1536 + j) (let m : s < q = omega arith in omega arith)
  ]

  pub tables-with : IsTables after
  tables-with = record {
    each = λ q v i a b h. elim (ℕ_discrete q s) [
      | yes k ↦ (rw k
          (here (v * 96 + i) (omega arith) ∙ P.each v i b h
          ∙ chosen-ext 4 v _ _ (λ e m. let p = narrow e m in sym (here (2 ^ e * 96 + i) (omega arith)))))
      | no k ↦
          stays q (v * 96 + i) k (omega arith) ∙ T.each q v i a b h
          ∙ chosen-ext 4 v _ _ (λ e m. let p = narrow e m in sym (stays q (2 ^ e * 96 + i) k (omega arith)))
    ];
  }

-- one of four tables as it is lent
pub table-lent : (t : List ℕ) (s : ℕ) (fit : s * 1536 + 1536 ≤ length t) → s < 4 → IsTables t
    → IsTable (take (s * 1536 + 1536 - s * 1536) (drop (s * 1536) t))
table-lent t s fit l T = record {
  each = λ v i b h.
      lent_at 1536 s t fit (v * 96 + i) (omega arith) ∙ T.each s v i l b h
      ∙ chosen-ext 4 v _ _ (λ e m.
      let k : e ≤ 3 = omega arith in
      let p : 2 ^ e ≤ 2 ^ 3 = pow_mono k in
      sym (lent_at 1536 s t fit (2 ^ e * 96 + i) (omega arith)));
}

-- zeros are tables of zeros
pub zero-tables : (n : ℕ) → IsTables (replicate n 0)
zero-tables n = record {
  each = λ s v i a b h. zeros-at n (s * 1536 + (v * 96 + i)) ∙ sym (chosen-ext 4 v _ (λ _. 0) (λ e _. zeros-at n _) ∙ chosen-zeros 4 v);
}
