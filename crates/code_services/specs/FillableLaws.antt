-- A group with c or more lost places can always be filled, so it is never the one that contradicts. Of the lost places c are kept; for each other
-- place there is a stretch that is 1 there, 0 at the others that are not kept, and meets the group's equations; multiples of these add up to
-- any symbols at the places that are not kept.
use Rattle.std.specs.Prelude.{◌≡◌, refl, Bool, true, false, List, length}
use Rattle.std.proofs.Math.Path.{sym, ap, ap₂, subst}
use Rattle.std.proofs.Common.{◌∙◌, arith}
use Prim.Native.Nat.{ℕ, ◌+◌, ◌*◌, ◌<◌, ◌≤◌, ◌^◌, min}
use Rattle.std.proofs.Math.Decide.{dec_lt}
use Rattle.std.proofs.Math.ListN.{get_or}
use Rattle.binary_field.specs.Xor.{◌⊕◌}
use Rattle.binary_field.specs.XorLaws.{⊕-zero-l, ⊕-self}
use Rattle.binary_field.specs.ProductLaws.{product-zero, product-one}
use Rattle.binary_field.specs.Sum.{sum_below}
use Rattle.binary_field.specs.SumLaws.{sum-single, sum-zero}
use Rattle.code.specs.Edition.{Edition, Sound, times}
use Rattle.code.specs.Word.{local_sum, Symbols}
use Rattle.code.specs.WordLaws.{zero-local}
use Rattle.code.specs.Marks.{lost, lost_in}
use Rattle.code.specs.Blank.{blank}
use Rattle.code.specs.BlankLaws.{blank-at, blank-symbols, blank-group}
use Rattle.code.specs.Combined.{combined}
use Rattle.code.specs.CombinedLaws.{combined-at, combined-group, combined-symbols}
use Rattle.code.specs.OneGroup.{LocalWay}
use Rattle.code.specs.OneGroupLaws.{local-way}
use Rattle.code.specs.Repair.{Satisfies}
use Rattle.code_engine.specs.Bound.{bound_of}
use Rattle.code_engine.specs.BoundLaws.{bound-length, bound-present, bound-count}

module _ (E : Edition) (S : Sound E) (w c : ℕ) (wide : 0 < w) (narrow : w ≤ E.small) (part marks : List ℕ) (s : Symbols E w part)
    (size : length marks ≡ w) (many : c ≤ lost_in w marks 0) where
  -- the lost places that are kept, c of them
  kept : List ℕ
  kept = bound_of c marks

  kept-c : lost_in w kept 0 ≡ c
  unfolding kept
  kept-c = subst (λ n. lost_in n (bound_of c marks) 0 ≡ min c (lost_in n marks 0)) size (bound-count c marks) ∙ (let m = many in omega arith)

  -- a stretch for each place: its direction, or zeros for a kept place
  record Way (i : ℕ) : Type 0 where
    h : List ℕ
    symbols : Symbols E w h
    own : lost kept i ≡ false → get_or h i 0 ≡ 1
    off : (q : ℕ) → q < w → lost kept q ≡ false → ¬ (q ≡ i) → get_or h q 0 ≡ 0
    zero : (e : ℕ) → e < c → local_sum E w h 0 e ≡ 0

  way : (i : ℕ) → i < w → Way i
  way i l = go (lost kept i) refl
    where
      go : (v : Bool) → lost kept i ≡ v → Way i
      go true e = record {
        h = blank w;
        symbols = blank-symbols E w;
        own = λ f. absurd (let z : ◌≡◌ {A = ℕ} 0 1 = cc in omega arith);
        off = λ q _ _ _. blank-at w q;
        zero = λ e _. blank-group E w w 0 _;
      }
      go false e =
          let W = local-way E S w wide narrow kept i l e in
          record { h = W.h; symbols = W.symbols; own = λ _. W.own; off = W.off; zero = λ e k. W.zero e (subst (λ n. e < n) (sym kept-c) k) }

  way_of : (i : ℕ) → Dec (i < w) → List ℕ
  way_of i (yes l) = (way i l).h
  way_of i (no _) = blank w

  ways : ℕ → List ℕ
  ways i = way_of i (dec_lt i w)

  at_own : (i : ℕ) → i < w → (d : Dec (i < w)) → lost kept i ≡ false → get_or (way_of i d) i 0 ≡ 1
  unfolding way_of
  at_own i l (yes k) e = (way i k).own e
  at_own i l (no n) e = absurd (n l)

  at_off : (i : ℕ) (d : Dec (i < w)) (q : ℕ) → q < w → lost kept q ≡ false → ¬ (q ≡ i) → get_or (way_of i d) q 0 ≡ 0
  unfolding way_of
  at_off i (yes l) q h e n = (way i l).off q h e n
  at_off i (no _) q h e n = blank-at w q

  at_zero : (i : ℕ) (d : Dec (i < w)) (e : ℕ) → e < c → local_sum E w (way_of i d) 0 e ≡ 0
  unfolding way_of
  at_zero i (yes l) e h = (way i l).zero e h
  at_zero i (no _) e h = blank-group E w w 0 _

  once : 1 * w ≡ w
  once = omega arith

  -- the sum of the directions times the symbols of the stretch
  pub filling : List ℕ
  filling = combined E (1 * w) (blank (1 * w)) w (λ i. get_or part i 0) ways

  filling-symbols : Symbols E w filling
  unfolding filling
  filling-symbols =
      subst (λ n. Symbols E n filling) once
      (combined-symbols E 1 w w (blank (1 * w)) (λ i. get_or part i 0) ways (blank-symbols E (1 * w)) s.each)

  filling-at : (q : ℕ) → q < w → lost kept q ≡ false → get_or filling q 0 ≡ get_or part q 0
  unfolding filling ways
  filling-at q l e =
      combined-at E 1 w w (blank (1 * w)) (λ i. get_or part i 0) ways q (subst (λ n. q < n) (sym once) l)
      ∙ ap₂ ◌⊕◌ (blank-at (1 * w) q)
      (sum-single w q _ l (λ i _ n. ap (times E (get_or part i 0)) (at_off i (dec_lt i w) q l e (λ d. n (sym d)))
      ∙ product-zero E.bits E.poly (get_or part i 0))
      ∙ ap (times E (get_or part q 0)) (at_own q l (dec_lt q w) e) ∙ product-one E.bits E.poly S.facts.pos (get_or part q 0) (s.each q))
      ∙ ⊕-zero-l (get_or part q 0)

  filling-zero : (e : ℕ) → e < c → local_sum E w filling 0 e ≡ 0
  unfolding filling ways
  filling-zero e h =
      combined-group E 1 w w (blank (1 * w)) (λ i. get_or part i 0) ways 0 _ (omega arith)
      ∙ ap₂ ◌⊕◌ (blank-group E (1 * w) w 0 _)
      (sum-zero w _ (λ i _. ap (times E (get_or part i 0)) (at_zero i (dec_lt i w) e h) ∙ product-zero E.bits E.poly (get_or part i 0))) ∙ ⊕-self 0

  pub fillable : Satisfies E w c marks part filling
  unfolding kept
  fillable = record {
    fills = record {
      size = filling-symbols.size ∙ sym s.size;
      present = λ p l e. filling-at p (subst (λ n. p < n) s.size l) (bound-present c marks p e);
      each = λ p _ _. filling-symbols.each p;
    };
    passes = zero-local E w c filling 0 filling-zero;
  }
