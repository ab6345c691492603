-- Laws: One group of a block rebuild.
use Rattle.std.specs.Prelude.{◌≡◌, Bool, List, ℕ, zero, suc, ◌<◌, ◌≤◌, length}
use Rattle.std.proofs.Math.Path.{refl, sym, ap, ap₂}
use Rattle.std.proofs.Common.{◌∙◌, true≢false, lit<}
use Rattle.std.proofs.Math.Bool.{true, false, cond}
use native.Mathlib.Omega.{arith}
use Rattle.std.proofs.Math.Decide.{ℕ_discrete, dec_lt}
use Rattle.std.proofs.Math.ListN.{get_or}
use Rattle.counting.specs.Count.{count_below}
use Rattle.counting.specs.CountLaws.{count_next}
use Rattle.binary_field.specs.Xor.{◌⊕◌}
use Rattle.binary_field.specs.XorLaws.{⊕-zero-l, ⊕-zero-r, ⊕-cancel}
use Rattle.binary_field.specs.ProductLaws.{product-assoc, product-zero, zero-product, product-one, product_lt}
use Rattle.binary_field.specs.Sum.{sum_below}
use Rattle.binary_field.specs.SumLaws.{sum-ext, sum-zero, sum-single, sum-swap, sum-scale, scale-sum, sum_lt}
use Rattle.code.specs.Edition.{times, raised}
use Rattle.code.specs.Word.{group_sum, local_sum, coefficient}
use Rattle.code.specs.Marks.{lost, lost_in}
use Rattle.code.specs.OneGroup.{LocalWay}
use Rattle.code.specs.OneGroupLaws.{local-way, way-share}
use Rattle.code.specs.StretchLaws.{own-place}
use Rattle.byte_edition.specs.Edition.{byte_edition}
use Rattle.byte_edition.specs.EditionLaws.{bytes-sound}
use Rattle.code_engine.specs.EliminationSteps.{identity}
use Rattle.code_engine.specs.EliminationStepsLaws.{identity-same, identity-other}
use Rattle.block_constants.specs.Reduced.{dot, Meets, ReducedTo}
use Rattle.block_constants.specs.ReducedLaws.{dot-ext, dot-added}
use Rattle.block_laws.specs.Group.{check_of, group_of, masked, Fills, AgreesIn, Mendable, StandsFor, Gives}

pub check-local : (c g e : ℕ) → e < 4 → (j : ℕ) → check_of c g e j ≡ raised byte_edition (byte_edition.locator j) e
unfolding check_of
check-local c g zero l j = refl
check-local c g (suc zero) l j = refl
check-local c g (suc (suc zero)) l j = refl
check-local c g (suc (suc (suc zero))) l j = refl
check-local c g (suc (suc (suc (suc e)))) l j = absurd (omega arith)

pub check-first : (c g : ℕ) (j : ℕ) → check_of c g 4 j ≡ coefficient byte_edition c j
unfolding check_of
check-first c g j = refl

pub group-dot : (w g : ℕ) (word : List ℕ) (h : ℕ → ℕ) → group_sum byte_edition w word g h ≡ dot byte_edition w (group_of w g word) h
unfolding group_sum dot
group-dot w g word h = refl

-- ---- what the reduced rows say
module _ (w c g : ℕ) (bound : List ℕ) (M : ℕ → ℕ → ℕ) (R : ReducedTo byte_edition w 6 bound w (lost_in w bound 0) (check_of c g) M) where
  -- the entries at the bound places
  there : (ℕ → ℕ) → ℕ → ℕ
  there row j = cond (lost bound j) (row j) 0

  parted : (row : ℕ → ℕ) (j : ℕ) → row j ≡ masked bound row j ⊕ there row j
  unfolding there
  parted row j = go (lost bound j)
    where
      go : (b : Bool) → row j ≡ cond b 0 (row j) ⊕ cond b (row j) 0
      go true = sym (⊕-zero-l (row j))
      go false = sym (⊕-zero-r (row j))

  dot-parted : (y row : ℕ → ℕ) → dot byte_edition w y row ≡ dot byte_edition w y (masked bound row) ⊕ dot byte_edition w y (there row)
  dot-parted y row = dot-ext byte_edition w y y row _ (λ _ _. refl) (λ j _. parted row j) ∙ dot-added byte_edition w y (masked bound row) (there row)

  -- of two bound places the numbers differ
  apart : (i j : ℕ) → lost bound i ≡ true → lost bound j ≡ true → ¬ (i ≡ j) → count_below i (lost bound) ≡ count_below j (lost bound) → ⊥
  apart i j ei ej n e = elim (dec_lt i j) [
    | yes l ↦ (let z = count_next i j (lost bound) l ei in omega arith)
    | no l ↦ elim (ℕ_discrete i j) [
      | yes q ↦ n q
      | no q ↦ (let z = count_next j i (lost bound) (omega arith) ej in omega arith)
    ]
  ]

  number-less : (j : ℕ) → j < w → lost bound j ≡ true → count_below j (lost bound) < lost_in w bound 0
  number-less j l e = let z = count_next j w (lost bound) l e in let q = R.count in omega arith

  -- row i has only 0 at the bound places, if it is not the row of one of them
  there-none : (y : ℕ → ℕ) (i : ℕ) → lost_in w bound 0 ≤ i → i < 6 → dot byte_edition w y (there (M i)) ≡ 0
  unfolding there dot
  there-none y i l b = sum-zero w _ (λ j h. ap (times byte_edition (y j)) (go j h (lost bound j) refl) ∙ product-zero 8 285 (y j))
    where
      go : (j : ℕ) → j < w → (v : Bool) → lost bound j ≡ v → cond v (M i j) 0 ≡ 0
      go j h true e = let z = number-less j h e in R.unit j h e i b ∙ identity-other i _ (λ q. omega arith)
      go j h false e = refl

  -- and in the row of a bound place 1 there
  there-one : (y : ℕ → ℕ) (j : ℕ) → j < w → y j < 256 → lost bound j ≡ true → lost_in w bound 0 ≤ 6 → dot byte_edition w y (there (M (count_below j (lost bound))))
      ≡ y j
  unfolding there dot
  there-one y j l small e few =
      sum-single w j _ l (λ i h n. ap (times byte_edition (y i)) (go i h n (lost bound i) refl) ∙ product-zero 8 285 (y i))
      ∙ ap (times byte_edition (y j)) (ap (λ v. cond v (M (count_below j (lost bound)) j) 0) e ∙ R.unit j l e (count_below j (lost bound)) inside
      ∙ identity-same (count_below j (lost bound)) (count_below j (lost bound)) refl)
      ∙ product-one 8 285 (lit< tt) (y j) small
    where
      inside : count_below j (lost bound) < 6
      inside = let z = number-less j l e in omega arith

      go : (i : ℕ) → i < w → ¬ (i ≡ j) → (v : Bool) → lost bound i ≡ v → cond v (M (count_below j (lost bound)) i) 0 ≡ 0
      go i h n true f = R.unit i h f (count_below j (lost bound)) inside ∙ identity-other _ _ (λ q. apart j i e f (λ z. n (sym z)) q)
      go i h n false f = refl

  masked_same : (v y row : ℕ → ℕ) → Fills w c g bound v y → dot byte_edition w y (masked bound row) ≡ dot byte_edition w v (masked bound row)
  unfolding dot
  masked_same v y row F = sum-ext w _ _ (λ j l. go j l (lost bound j) refl)
    where
      go : (j : ℕ) → j < w → (b : Bool) → lost bound j ≡ b → times byte_edition (y j) (cond b 0 (row j)) ≡ times byte_edition (v j) (cond b 0 (row j))
      go j l true e = product-zero 8 285 (y j) ∙ sym (product-zero 8 285 (v j))
      go j l false e = ap (λ a. times byte_edition a (row j)) (F.same j l e)

  masked-none : (row : ℕ → ℕ) (j : ℕ) → j < w → lost bound j ≡ true → masked bound row j ≡ 0
  masked-none row j l e = ap (λ b. cond b 0 (row j)) e

  -- a row that is left, masked, stands for its equation
  pub stands : (i : ℕ) → lost_in w bound 0 ≤ i → i < 6 → StandsFor w c g bound i (masked bound (M i))
  stands i l b = record {
    none = masked-none (M i);
    sum = λ v y F.
        sym (R.rest y F.meets i l b) ∙ dot-parted y (M i) ∙ ap (λ s. dot byte_edition w y (masked bound (M i)) ⊕ s) (there-none y i l b) ∙ ⊕-zero-r _
        ∙ masked_same v y (M i) F;
  }

  -- the row of a bound place, masked, gives its symbol
  pub gives : (j : ℕ) → j < w → lost bound j ≡ true → lost_in w bound 0 ≤ 6 → Gives w c g bound j (masked bound (M (count_below j (lost bound))))
  gives j l e few = record {
    none = masked-none (M (count_below j (lost bound)));
    sum = λ v y F.
        sym (⊕-cancel (sym (ap (λ s. dot byte_edition w y (masked bound (M (count_below j (lost bound)))) ⊕ s) (there-one y j l (F.small j) e few))
        ∙ sym (dot-parted y (M (count_below j (lost bound)))) ∙ R.forth y F.meets (count_below j (lost bound)) (number-less j l e)))
        ∙ masked_same v y (M (count_below j (lost bound))) F;
  }

pub agrees-fills : (w c g : ℕ) (bound : List ℕ) (v y : ℕ → ℕ) → lost_in w bound 0 ≤ c → AgreesIn w c g bound v y → Fills w c g bound v y
agrees-fills w c g bound v y within A = record { small = A.small; same = A.same; meets = λ e l. A.meets e (omega arith) }

-- ---- every v can be filled
local-dot : (w c g : ℕ) (h : List ℕ) (e : ℕ) → e < 4 → local_sum byte_edition w h 0 e ≡ dot byte_edition w (λ j. get_or h j 0) (check_of c g e)
unfolding group_sum dot
local-dot w c g h e l = sum-ext w _ _ (λ j b. ap₂ (times byte_edition) (ap (λ i. get_or h i 0) (own-place w j)) (sym (check-local c g e l j)))

dot-none : (w : ℕ) (h : ℕ → ℕ) → dot byte_edition w (λ _. 0) h ≡ 0
unfolding dot
dot-none w h = sum-zero w _ (λ j _. zero-product 8 285 (h j))

-- what is 1 at place j and 0 at every other place that is not bound, and meets as many local equations as places are bound
pub record WayAt (w c g : ℕ) (bound : List ℕ) (j : ℕ) : Type 0 where
  pub h : ℕ → ℕ
  pub at : (i : ℕ) → i < w → lost bound i ≡ false → h i ≡ identity i j
  pub meets : Meets byte_edition w (lost_in w bound 0) h (check_of c g)

module _ (w c g : ℕ) (wide : 0 < w) (narrow : w ≤ 16) (bound : List ℕ) (few : lost_in w bound 0 ≤ 4) where
  -- nothing, for a place that is bound or past the end
  nothing : (j : ℕ) → ((i : ℕ) → i < w → lost bound i ≡ false → ¬ (i ≡ j)) → WayAt w c g bound j
  nothing j n = record { h = λ _. 0; at = λ i l e. sym (identity-other i j (n i l e)); meets = λ e l. dot-none w (check_of c g e) }

  way : (j : ℕ) → WayAt w c g bound j
  way j = elim (dec_lt j w) [
    | yes l ↦ go l (lost bound j) refl
    | no l ↦ nothing j (λ i h e q. omega arith)
  ]
    where
      go : j < w → (b : Bool) → lost bound j ≡ b → WayAt w c g bound j
      go l true e = nothing j (λ i h f q. true≢false (sym e ∙ ap (lost bound) (sym q) ∙ f))
      go l false e =
          let W = local-way byte_edition bytes-sound w wide narrow bound j l e in
          record {
            h = λ i. get_or W.h i 0;
            at = λ i h f. elim (ℕ_discrete i j) [
              | yes q ↦ ap (λ k. get_or W.h k 0) q ∙ W.own ∙ sym (identity-same i j q)
              | no q ↦ W.off i h f q ∙ sym (identity-other i j q)
            ];
            meets = λ k h. sym (local-dot w c g W.h k (omega arith)) ∙ W.zero k h;
          }

  -- where c places are bound, what stands for the first equation across has no 0 at another place
  pub first_some : length bound ≡ w → lost_in w bound 0 ≡ c → (j : ℕ) → j < w → lost bound j ≡ false → (a : ℕ → ℕ) → StandsFor w c g bound 4 a → a j ≡ 0 → ⊥
  unfolding group_sum dot
  first_some long full j l free a A z =
      way-share byte_edition bytes-sound w wide narrow c bound long full j l free W.h W.own W.off W.zero
      (sum-ext w _ _ (λ i _. ap₂ (times byte_edition) (ap (λ k. get_or W.h k 0) (own-place w i)) (sym (check-first c g i)))
      ∙ A.sum (λ i. identity i j) (λ i. get_or W.h i 0) fills
      ∙ sum-single w j _ l (λ i _ n. ap (λ b. times byte_edition b (a i)) (identity-other i j n) ∙ zero-product 8 285 (a i))
      ∙ ap (times byte_edition (identity j j)) z ∙ product-zero 8 285 (identity j j))
    where
      W : LocalWay byte_edition w bound j
      W = local-way byte_edition bytes-sound w wide narrow bound j l free

      fills : Fills w c g bound (λ i. identity i j) (λ i. get_or W.h i 0)
      fills = record {
        small = W.symbols.each;
        same = λ i k f. elim (ℕ_discrete i j) [
          | yes q ↦ ap (λ k. get_or W.h k 0) q ∙ W.own ∙ sym (identity-same i j q)
          | no q ↦ W.off i k f q ∙ sym (identity-other i j q)
        ];
        meets = λ e k. sym (local-dot w c g W.h e (omega arith)) ∙ W.zero e k;
      }

  module _ (v : ℕ → ℕ) (small : (j : ℕ) → v j < 256) where
    filled : ℕ → ℕ
    filled i = sum_below w (λ j. times byte_edition (v j) ((way j).h i))

    -- some y fills v
    pub fill-some : (y : ℕ → ℕ) × Fills w c g bound v y
    unfolding filled dot
    fill-some = (
      filled,
      record {
        small = λ i. sum_lt 8 w _ (λ j _. product_lt 8 285 (v j) ((way j).h i));
        same = λ i l e.
            sum-single w i _ l (λ j h n. ap (times byte_edition (v j)) ((way j).at i l e ∙ identity-other i j (λ q. n (sym q))) ∙ product-zero 8 285 (v j))
            ∙ ap (times byte_edition (v i)) ((way i).at i l e ∙ identity-same i i refl) ∙ product-one 8 285 (lit< tt) (v i) (small i);
        meets = λ e l.
            sum-ext w _ _ (λ i _. sym (scale-sum 8 285 w (check_of c g e i) _) ∙ sum-ext w _ _ (λ j _. product-assoc 8 285 (v j) ((way j).h i) (check_of c g e i)))
            ∙ sum-swap w w _ ∙ sum-zero w _ (λ j _. sum-scale 8 285 w (v j) _ ∙ ap (times byte_edition (v j)) ((way j).meets e l) ∙ product-zero 8 285 (v j));
      },
    )

    -- a group can be mended exactly if the rows that are left come to 0
    module _ (checks : c ≤ 4) (within : lost_in w bound 0 ≤ c) (a : ℕ → ℕ → ℕ)
        (A : (e : ℕ) → lost_in w bound 0 ≤ e → e < c → StandsFor w c g bound e (a e)) where
      pub mendable : ((e : ℕ) → lost_in w bound 0 ≤ e → e < c → dot byte_edition w v (a e) ≡ 0) → Mendable w c g bound v
      mendable z = (
        fill-some.0,
        record {
          small = fill-some.1.small;
          same = fill-some.1.same;
          meets = λ e l. elim (dec_lt e (lost_in w bound 0)) [
            | yes h ↦ fill-some.1.meets e h
            | no h ↦ (A e (omega arith) l).sum v fill-some.0 fill-some.1 ∙ z e (omega arith) l
          ];
        },
      )

      pub mended : Mendable w c g bound v → (e : ℕ) → lost_in w bound 0 ≤ e → e < c → dot byte_edition w v (a e) ≡ 0
      mended M e l h =
          sym ((A e l h).sum v M.0 (agrees-fills w c g bound v M.0 within M.1)) ∙ M.1.meets e h
