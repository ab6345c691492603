-- The coefficients of directions in the two sums across, for any bound marks and whatever the excess: the first of one direction is not 0, and
-- neither is the determinant of two.
use Rattle.std.specs.Prelude.{◌≡◌, Bool, ◌&&◌, List, ℕ, zero, suc, ◌+◌, ◌-◌, ◌*◌, ◌/◌, ◌%◌, ◌<◌, ◌≤◌, ◌^◌, eqb, length, set}
use Rattle.std.proofs.Math.Path.{refl, sym, ap₂}
use Rattle.std.proofs.Common.{ap, ◌∙◌, subst, true≢false, div-add-mod', div-lt_iff_lt-mul, mod-lt, mul-le-mul_right}
use Rattle.std.proofs.Math.Bool.{true, false, not}
use native.Mathlib.Omega.{arith}
use Rattle.std.proofs.Math.Decide.{ℕ_discrete}
use Rattle.std.proofs.Math.Arith.{digits_div}
use Rattle.std.proofs.Math.ListN.{length-set}
use Rattle.counting.specs.Count.{one, count_below}
use Rattle.counting.specs.CountLaws.{total-zero, total_ext, total-sum, total-rows}
use Rattle.binary_field.specs.Xor.{◌⊕◌}
use Rattle.binary_field.specs.ProductLaws.{product-comm, product_lt}
use Rattle.binary_field.specs.SumLaws.{sum_lt}
use Rattle.code.specs.Edition.{Edition, Sound, times}
use Rattle.code.specs.Word.{group_sum, word_sum, first_across, second_across}
use Rattle.code.specs.Marks.{lost, lost_in, excess}
use Rattle.code.specs.MarksLaws.{marked_other, marked-own}
use Rattle.code.specs.OneGroupLaws.{way-share}
use Rattle.code.specs.Stretch.{stretch}
use Rattle.code.specs.StretchLaws.{stretch-at, stretch-length, stretch-count}
use Rattle.code.specs.Lone.{lone}
use Rattle.code.specs.LoneLaws.{lone-word}
use Rattle.code.specs.Limits.{GoodIn}
use Rattle.code.specs.Pair.{pair_at}
use Rattle.code_engine.specs.Bound.{free}
use Rattle.code_engine.specs.BoundGroups.{BoundAll}
use Rattle.code_engine.specs.FreePlaces.{FreePlaces, free_at}
use Rattle.code_engine.specs.CandidateSteps.{DirectionIn}
use Rattle.code_engine.specs.Mended.{BoundFew}
use Rattle.code_engine.specs.SolvedLaws.{sum-two, pair_lt}
use Rattle.code_engine.specs.Columns.{Left}
use Rattle.code_engine.specs.ColumnsLaws.{listed, split, columns-independent}
use Rattle.code.specs.PairLaws.{determinant-some}

-- a free place is one for a direction
pub few-at : {m w c : ℕ} {marks bound : List ℕ} {x a b : ℕ} → 0 < w → BoundAll m w c marks bound → FreePlaces marks bound x a b → length marks ≡ m * w
    → (i : ℕ) → i < x → BoundFew m w c (free_at a b i) bound
few-at {m} {w} {c} {marks} {bound} {x} {a} {b} wide K P size i l = record {
  size = K.size ∙ size;
  few = K.bound-few;
  full = K.bound-full (f / w) (f % w) ((div-lt_iff_lt-mul wide).1 (subst (λ n. f < n) size (P.less i l))) (mod-lt f wide)
      (ap (lost marks) (div-add-mod' f w) ∙ P.is_lost i l) (ap (lost bound) (div-add-mod' f w) ∙ P.not-bound i l);
  own = P.not-bound i l;
}
  where
    f : ℕ
    f = free_at a b i

pub word_lt : (E : Edition) (m w : ℕ) (word : List ℕ) (h : ℕ → ℕ → ℕ) → word_sum E m w word h < 2 ^ E.bits
unfolding word_sum group_sum
word_lt E m w word h = sum_lt E.bits m _ (λ g _. sum_lt E.bits w _ (λ j _. product_lt E.bits E.poly _ _))

module _ {E : Edition} (S : Sound E) (m w c : ℕ) (good : GoodIn E.limits m w c) (bound : List ℕ) where
  wide : 0 < w
  wide = let k = good.wide in omega arith

  narrow : w ≤ E.small
  narrow = let h = good.narrow in let k = S.width_narrow in omega arith

  -- the first sum across of a direction is not 0
  pub first-weight : (p : ℕ) → p < m * w → BoundFew m w c p bound → (h : List ℕ) → DirectionIn E w (p % w) (stretch w (p / w) bound) h
      → first_across E m w c (lone m w (p / w) h) ≡ 0 → ⊥
  first-weight p l K h D z =
      way-share E S w wide narrow c (stretch w (p / w) bound)
      (stretch-length w (p / w) bound (subst (λ n. suc (p / w) * w ≤ n) (sym K.size) (mul-le-mul_right w g)))
      (stretch-count w (p / w) bound ∙ K.full) (p % w) inside
      (ap (λ b. eqb b 1) (stretch-at w (p / w) bound (p % w) inside) ∙ ap (lost bound) (div-add-mod' p w) ∙ K.own) h D.own D.off D.zero
      (sym (lone-word m w (p / w) h g D.size E _) ∙ z)
    where
      inside : p % w < w
      inside = mod-lt p wide

      g : p / w < m
      g = (div-lt_iff_lt-mul wide).1 l

  -- ---- two places p and q: the marks that have them besides the bound ones
  module _ (p q : ℕ) (lp : p < m * w) (lq : q < m * w) (apart : ¬ (p ≡ q)) (K : BoundFew m w c p bound) (L : BoundFew m w c q bound) where
    marks : List ℕ
    marks = set (set bound p 1) q 1

    size : length marks ≡ m * w
    unfolding marks
    size = length-set (set bound p 1) q 1 ∙ length-set bound p 1 ∙ K.size

    lost-q : lost marks q ≡ true
    unfolding marks
    lost-q = marked-own (set bound p 1) q (let e = length-set bound p 1 ∙ K.size in omega arith)

    lost-p : lost marks p ≡ true
    unfolding marks
    lost-p = marked_other (set bound p 1) q p apart ∙ marked-own bound p (let e = K.size in omega arith)

    lost-other : (r : ℕ) → ¬ (r ≡ p) → ¬ (r ≡ q) → lost marks r ≡ lost bound r
    unfolding marks
    lost-other r n k = marked_other (set bound p 1) q r k ∙ marked_other bound p r n

    bound-lost : (r : ℕ) → lost marks r ≡ false → lost bound r ≡ false
    bound-lost r e = elim (ℕ_discrete r p) [
      | yes d ↦ ap (lost bound) d ∙ K.own
      | no d ↦ elim (ℕ_discrete r q) [
        | yes k ↦ ap (lost bound) k ∙ L.own
        | no k ↦ sym (lost-other r d k) ∙ e
      ]
    ]

    every : (r : ℕ) → lost marks r ≡ true → lost bound r ≡ false → (i : ℕ) × (i < 2) × (r ≡ free_at p q i)
    every r e f = elim (ℕ_discrete r p) [
      | yes d ↦ (0, omega arith, d)
      | no d ↦ elim (ℕ_discrete r q) [
        | yes k ↦ (1, omega arith, k)
        | no k ↦ absurd (true≢false (sym e ∙ lost-other r d k ∙ f))
      ]
    ]

    both : (P : ℕ → Type 0) → P p → P q → (i : ℕ) → P (free_at p q i)
    both P x y zero = x
    both P x y (suc i) = y

    places : FreePlaces marks bound 2 p q
    places = record {
      most = omega arith;
      less = λ i _. both (λ r. r < length marks) (subst (λ n. p < n) (sym size) lp) (subst (λ n. q < n) (sym size) lq) i;
      is_lost = λ i _. both (λ r. lost marks r ≡ true) lost-p lost-q i;
      not-bound = λ i _. both (λ r. lost bound r ≡ false) K.own L.own i;
      apart = differ;
      every = λ _ r _. every r;
    }
      where
        differ : (i l : ℕ) → i < 2 → l < 2 → free_at p q i ≡ free_at p q l → i ≡ l
        differ zero zero a b e = refl
        differ zero (suc l) a b e = absurd (apart e)
        differ (suc i) zero a b e = absurd (apart (sym e))
        differ (suc i) (suc l) a b e = omega arith

    full : (g j : ℕ) → j < w → lost marks (g * w + j) ≡ true → lost bound (g * w + j) ≡ false → lost_in w bound g ≡ c
    full g j k e f =
        let t = every (g * w + j) e f in
        ap (lost_in w bound) (sym (digits_div g k) ∙ ap (λ r. r / w) t.2) ∙ both (λ r. lost_in w bound (r / w) ≡ c) K.full L.full t.0

    parted : (a b : Bool) → (a ≡ false → b ≡ false) → one (a && not b) + one b ≡ one a
    parted true true h = refl
    parted true false h = refl
    parted false true h = absurd (true≢false (h refl))
    parted false false h = refl

    free_in : (g : ℕ) → g < m → count_below w (λ j. free marks bound (g * w + j)) ≡ lost_in w marks g - c
    unfolding lost_in
    free_in g l =
        let s = total-sum w (λ j. one (free marks bound (g * w + j))) (λ j. one (lost bound (g * w + j))) in
        let t = total_ext w _ (λ j. one (lost marks (g * w + j))) (λ j k. parted (lost marks (g * w + j)) (lost bound (g * w + j)) (bound-lost (g * w + j))) in
        let f = K.few g l in
        elim (ℕ_discrete (lost_in w bound g) c) [
          | yes e ↦ omega arith
          | no e ↦ (let z = total-zero w (λ j. one (free marks bound (g * w + j)))
              (λ j k. none j k e (lost marks (g * w + j)) (lost bound (g * w + j)) refl refl) in omega arith)
        ]
      where
        none : (j : ℕ) → j < w → ¬ (lost_in w bound g ≡ c) → (a b : Bool) → lost marks (g * w + j) ≡ a → lost bound (g * w + j) ≡ b → one (a && not b) ≡ 0
        none j k n true true e f = refl
        none j k n true false e f = absurd (n (full g j k e f))
        none j k n false b e f = refl

    keeps : BoundAll m w c marks bound
    unfolding excess
    keeps = record {
      size = K.size ∙ sym size;
      bound-lost = λ r _. bound-lost r;
      bound-few = K.few;
      bound-full = λ g j _ k. full g j k;
      free-count = total-rows m w (λ r. one (free marks bound r)) ∙ total_ext m _ _ free_in;
    }

    low : excess m w c marks ≤ 2
    low =
        let e = listed (m * w) 2 (free_at p q) (free marks bound) (λ i _. both (λ r. r < m * w) lp lq i)
        (λ i l. rw (places.is_lost i l, places.not-bound i l)) places.apart
        (λ r _ f. let s = split (lost marks r) (lost bound r) f in every r s.0 s.1) in
        let f = keeps.free-count in
        omega arith

    module _ (h k : List ℕ) (D : DirectionIn E w (p % w) (stretch w (p / w) bound) h) (N : DirectionIn E w (q % w) (stretch w (q / w) bound) k) where
      left : Left E m w c marks
      left = record { bound = bound; keeps = keeps; x = 2; first = p; second = q; places = places; h = pair_at h k; way = way }
        where
          way : (i : ℕ) → i < 2 → DirectionIn E w (free_at p q i % w) (stretch w (free_at p q i / w) bound) (pair_at h k i)
          way zero l = D
          way (suc i) l = N

      -- the determinant of two directions is not 0: their columns are independent
      pub two-weights : times E (first_across E m w c (lone m w (p / w) h)) (second_across E m w c (lone m w (q / w) k))
          ⊕ times E (first_across E m w c (lone m w (q / w) k)) (second_across E m w c (lone m w (p / w) h)) ≡ 0 → ⊥
      unfolding left
      two-weights = determinant-some S (word_lt E m w _ _) (word_lt E m w _ _) (word_lt E m w _ _) (word_lt E m w _ _)
          (λ u v Q. let Z = ((columns-independent S m w c good marks size low).independent left).only_zero (pair_at u v) (pair_lt Q.u-lt Q.v-lt)
          (sum-two _ ∙ ap₂ ◌⊕◌ (product-comm E.bits E.poly u _) (product-comm E.bits E.poly v _) ∙ Q.first)
          (sum-two _ ∙ ap₂ ◌⊕◌ (product-comm E.bits E.poly u _) (product-comm E.bits E.poly v _) ∙ Q.second) in
          (Z 0 (omega arith), Z 1 (omega arith)))
