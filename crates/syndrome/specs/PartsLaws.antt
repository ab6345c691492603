-- Sums of a word by groups, as the loops gather them.
use Rattle.std.specs.Prelude.{◌≡◌, List, ℕ, suc, ◌+◌, ◌-◌, ◌*◌, ◌<◌, ◌≤◌, length, get_or, take}
use Rattle.std.proofs.Common.{sym, ap, ap₂, ◌∙◌, arith, length-take, get_or-take, length-take-le}
use Rattle.std.proofs.Math.Decide.{dec_lt}
use Rattle.std.proofs.Math.Dec.{eqb}
use Rattle.std.proofs.Math.ListN.{get_or-eq_default}
use Rattle.counting.specs.Test.{all_below}
use Rattle.binary_field.specs.Sum.{inner_product}
use Rattle.binary_field.specs.SumLaws.{sum-ext}
use Rattle.code.specs.Edition.{times, raised}
use Rattle.byte_edition.specs.Edition.{byte_edition}
use Rattle.code.specs.Word.{group_sum, local_sum, coefficient, second_coefficient, is_local}
use Rattle.code.specs.StretchLaws.{own-place}
use Rattle.byte_edition.specs.Rows.{power_rows, first_rows, second_rows, no_row}
use Rattle.byte_edition.specs.RowsLaws.{power_at, first-at, second_at}
use Rattle.code_engine.specs.Padded.{Padded}
use Rattle.byte_edition.specs.PaddedLaws.{padded-group}
use Rattle.syndrome.specs.Across.{plain_sums, group_sums}

-- ---- one group, from its stretch
-- an inner product with a row of coefficients is a sum over the group
inner-group : (part row : List ℕ) (h : ℕ → ℕ) → length part ≤ 16 → ((j : ℕ) → j < 16 → get_or row j 0 ≡ h j)
    → inner_product 8 285 (length part) part row ≡ group_sum byte_edition (length part) part 0 h
unfolding inner_product group_sum
inner-group part row h narrow same =
    sum-ext (length part) _ _
    (λ j l. ap₂ (times byte_edition) (ap (λ n. get_or part n 0) (sym (own-place (length part) j))) (same j (omega arith)))

-- a stretch that is padded
module _ {part x : List ℕ} (P : Padded part x) (narrow : length part ≤ 16) (c : ℕ) where
  pub padded-local : is_local byte_edition (length x) c x 0 ≡ is_local byte_edition (length part) c part 0
  unfolding is_local
  padded-local i = all_below c (λ e. eqb (padded-group P narrow (λ j. raised byte_edition (byte_edition.locator j) e) i) 0)

  pub padded-plain : plain_sums c x ≡ plain_sums c part
  padded-plain = ap₂ (λ a b. record { first = a; second = b }) (padded-group P narrow (coefficient byte_edition c))
      (padded-group P narrow (λ j. raised byte_edition (coefficient byte_edition c j) 16))

-- the first w places of a row, padded
pub front-group : (x p : List ℕ) (w : ℕ) → Padded (take w x) p → w ≤ 16 → length x ≡ 16 → (h : ℕ → ℕ) → group_sum byte_edition (length p) p 0 h
    ≡ group_sum byte_edition w x 0 h
unfolding group_sum
front-group x p w P narrow size h =
    let l : w ≤ length x = omega arith in
    let e : length (take w x) ≡ w = length-take-le w x l in
    padded-group P (omega arith) h ∙ ap (λ n. group_sum byte_edition n (take w x) 0 h) e
    ∙ sum-ext w _ _ (λ j k. ap (λ b. times byte_edition b (h j)) (get_or-take w x (0 * w + j) 0 (let o = own-place w j in omega arith)))

-- a row of sixteen places that is 0 from place w on has the sums of its first w places
pub front-sums : (c g w : ℕ) (x : List ℕ) → length x ≡ 16 → w ≤ 16 → ((i : ℕ) → w ≤ i → get_or x i 0 ≡ 0) → group_sums c g x ≡ group_sums c g (take w x)
front-sums c g w x size narrow zero =
    ap₂ (λ a b. record { first = a; second = b }) (padded-group P n (coefficient byte_edition c)) (padded-group P n (second_coefficient byte_edition c g))
  where
    n : length (take w x) ≤ 16
    n = omega (arith, length-take w x)

    P : Padded (take w x) x
    P = record {
      size = size;
      each = λ j _. elim (dec_lt j w) [
        | yes l ↦ sym (get_or-take w x j 0 l)
        | no l ↦ zero j (omega arith) ∙ sym (get_or-eq_default (take w x) 0 (omega (arith, length-take w x)))
      ];
    }

module _ (part : List ℕ) (narrow : length part ≤ 16) where
  pub power-group : (e : ℕ) → e < 4 → inner_product 8 285 (length part) part (get_or power_rows e no_row) ≡ local_sum byte_edition (length part) part 0 e
  power-group e h = inner-group part _ _ narrow (λ j l. power_at e j h l)

  module _ (c : ℕ) (some : 1 ≤ c) (few : c ≤ 4) where
    same_count : suc (c - 1) ≡ c
    same_count = omega arith

    pub first_group : inner_product 8 285 (length part) part (get_or first_rows (c - 1) no_row)
        ≡ group_sum byte_edition (length part) part 0 (coefficient byte_edition c)
    first_group = inner-group part _ _ narrow (λ j l. first-at (c - 1) j (omega arith) l ∙ ap (λ n. coefficient byte_edition n j) same_count)

    pub second_group : inner_product 8 285 (length part) part (get_or second_rows (c - 1) no_row)
        ≡ group_sum byte_edition (length part) part 0 (λ j. raised byte_edition (coefficient byte_edition c j) 16)
    second_group = inner-group part _ _ narrow (λ j l. second_at (c - 1) j (omega arith) l
        ∙ ap (λ n. raised byte_edition (coefficient byte_edition n j) 16) same_count)
