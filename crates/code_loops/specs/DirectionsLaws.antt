-- Laws: A multiple of a direction added to its group, and the sums across of directions.
use Rattle.std.specs.Prelude.{◌≡◌, refl, List, ◌++◌, ℕ, ◌+◌, ◌-◌, ◌*◌, ◌/◌, ◌≤◌, ◌<◌, length, get_or, set, take, drop}
use Rattle.std.proofs.Common.{sym, ap, ap₂, ◌∙◌, arith, length-set}
use Rattle.std.proofs.Math.Decide.{ℕ_discrete}
use Rattle.std.specs.Int.Bits.{bit_xor}
use Rattle.binary_field.specs.Xor.{◌⊕◌}
use Rattle.binary_field.specs.XorLaws.{⊕-bits, ⊕-zero-r}
use Rattle.binary_field.specs.ProductLaws.{product-zero}
use Rattle.binary_field.specs.Inverse.{inverse}
use Rattle.code.specs.Edition.{Edition, Sound, times}
use Rattle.code.specs.Limits.{Limits, GoodIn}
use Rattle.code.specs.Word.{first_across, second_across}
use Rattle.code.specs.LentLaws.{stretch-lent, with-lent}
use Rattle.code.specs.Pair.{MetIn}
use Rattle.code.specs.Combined.{combined}
use Rattle.code.specs.Lone.{lone}
use Rattle.code_engine.specs.ListsLaws.{each_set, rest-set}
use Rattle.code_engine.specs.CandidateSteps.{AddedIn}
use Rattle.code_engine.specs.CandidateStepsLaws.{group-lt, added-combined, word_moved, mended-one, mended-two}
use Rattle.code_engine.specs.WeightsLaws.{first-weight, two-weights}
use Rattle.code_engine.specs.Mended.{MendedOneIn, MendedTwoIn}
use Rattle.code_loops.specs.Directions.{AddTurn, PairType, across_in, WayIn}

-- ---- a multiple added, place by place
pub add-first : {E : Edition} {u : ℕ} {h part : List ℕ} → AddTurn E u h part part 0
add-first = record { done = omega arith; size = refl; added = λ k l. absurd (omega arith); rest = λ k l. refl }

module _ {E : Edition} {u : ℕ} {h before part : List ℕ} {i : ℕ} (S : AddTurn E u h before part i) where
  pub add_turn : {after : List ℕ} {t : ℕ} → i < length before → after ≡ set part i (bit_xor (get_or part i 0) t) → t ≡ times E u (get_or h i 0)
      → AddTurn E u h before after (i + 1)
  add_turn {after} {t} l e is = record {
    done = omega arith;
    size = ap length e ∙ length-set part i _ ∙ S.size;
    added = rw e
        (each_set (λ k b. b ≡ get_or before k 0 ⊕ times E u (get_or h k 0)) part i _ 0 (let s = S.size in omega arith) S.added
        (⊕-bits _ _ ∙ ap₂ ◌⊕◌ (S.rest i (omega arith)) is));
    rest = rw e (rest-set (λ k. get_or before k 0) part i _ 0 S.rest);
  }

  -- a place with 0 is left out
  pub add_none : {after : List ℕ} → i < length before → after ≡ part → get_or h i 0 ≡ 0 → AddTurn E u h before after (i + 1)
  add_none l e zero = rw e record {
    done = omega arith;
    size = S.size;
    added = λ k b. elim (ℕ_discrete k i) [
      | yes q ↦
          (rw q
          (S.rest i (omega arith) ∙ sym (⊕-zero-r (get_or before i 0))
          ∙ ap (λ a. get_or before i 0 ⊕ a) (sym (ap (times E u) zero ∙ product-zero E.bits E.poly u))))
      | no q ↦ S.added k (omega arith)
    ];
    rest = λ k b. S.rest k (omega arith);
  }

  pub add-last : length before ≤ i → AddedIn E u h before part
  add-last l = record { size = S.size; each = λ k b. S.added k (omega arith) }

-- to the group's part as it is lent
pub add-lent : {E : Edition} {m w g u : ℕ} (h word : List ℕ) {part : List ℕ} → g < m → length word ≡ m * w → length h ≡ w
    → AddedIn E u h (take (g * w + w - g * w) (drop (g * w) word)) part
    → take (g * w) word ++ (part ++ drop (g * w + w - g * w) (drop (g * w) word)) ≡ combined E (m * w) word 1 (λ _. u) (λ _. lone m w g h)
add-lent {m = m} {w = w} {g = g} {u = u} h word {part} l size long A =
    with-lent w g word part ∙ added-combined m w g u h word part l size long (rw (stretch-lent w g word) at A)

-- ---- the group of a place
pub place-group : {B : Limits} {m w c p : ℕ} → GoodIn B m w c → p < m * w → p / w < m
place-group {m = m} {w = w} {c = c} {p = p} good l = group-lt m w c p good l

module _ {X : Type 0} (P : PairType X) (x y : ℕ) {s : X} (e : s ≡ P.pair x y) where
  first_of : P.first s ≡ x
  first_of = ap P.first e ∙ P.first-is x y

  second-of : P.second s ≡ y
  second-of = ap P.second e ∙ P.second_is x y

module _ {X : Type 0} {P : PairType X} {E : Edition} (S : Sound E) {m w c p : ℕ} {bound h : List ℕ} {a : X} (W : WayIn P E m w c p bound h a) where
  -- one free place is mended
  pub one-mended : {before after : List ℕ} {s : X} {u v t : ℕ} → s ≡ across_in P E m w c before → v ≡ inverse E.bits E.poly (P.first a)
      → u ≡ times E (P.first s) v → t ≡ times E u (P.second a) → after ≡ combined E (m * w) before 1 (λ _. u) (λ _. lone m w (p / w) h)
      → MendedOneIn E m w c p bound before after × (P.pair 0 (bit_xor (P.second s) t) ≡ across_in P E m w c after)
  one-mended {before} {after} {s} {u} here inverted solved moved is =
      let q : u ≡ times E (first_across E m w c before) (inverse E.bits E.poly (first_across E m w c (lone m w (p / w) h))) =
      solved ∙ ap₂ (times E) (first_of P _ _ here) (inverted ∙ ap (inverse E.bits E.poly) (first_of P _ _ W.sums)) in (
        record { h = h; way = W.way; u = u; solved = q; is = is },
        ap₂ P.pair
            (sym (mended-one S m w u before (lone m w (p / w) h) _
            (first-weight S m w c W.good bound p W.inside W.few h W.way) q))
            (⊕-bits _ _ ∙ ap₂ ◌⊕◌ (second-of P _ _ here) (moved ∙ ap (times E u) (second-of P _ _ W.sums))
            ∙ sym (word_moved E m w u before (lone m w (p / w) h) _))
            ∙ ap (across_in P E m w c) (sym is),
      )

  module _ {q : ℕ} {k : List ℕ} {b : X} (Y : WayIn P E m w c q bound k b) where
    -- the determinant of two is not 0
    pub two-apart : (p ≡ q → ⊥) → times E (P.first a) (P.second b) ⊕ times E (P.first b) (P.second a) ≡ 0 → ⊥
    two-apart n z =
        two-weights S m w c W.good bound p q W.inside Y.inside n W.few Y.few h k W.way Y.way
        (sym (ap₂ ◌⊕◌ (ap₂ (times E) (first_of P _ _ W.sums) (second-of P _ _ Y.sums))
        (ap₂ (times E) (first_of P _ _ Y.sums) (second-of P _ _ W.sums))) ∙ z)

    -- two are mended
    pub two-mended : {before middle after : List ℕ} {s : X} {u v : ℕ} → s ≡ across_in P E m w c before
        → MetIn E (P.first a) (P.first b) (P.second a) (P.second b) (P.first s) (P.second s) u v
        → middle ≡ combined E (m * w) before 1 (λ _. u) (λ _. lone m w (p / w) h)
        → after ≡ combined E (m * w) middle 1 (λ _. v) (λ _. lone m w (q / w) k)
        → MendedTwoIn E m w c p q bound before after × (P.pair 0 0 ≡ across_in P E m w c after)
    two-mended {before} {middle} {after} {s} {u} {v} here Q first second =
        let R : MetIn E (first_across E m w c (lone m w (p / w) h)) (first_across E m w c (lone m w (q / w) k))
        (second_across E m w c (lone m w (p / w) h)) (second_across E m w c (lone m w (q / w) k))
        (first_across E m w c before) (second_across E m w c before) u v =
        rw (← first_of P _ _ W.sums, ← first_of P _ _ Y.sums, ← second-of P _ _ W.sums, ← second-of P _ _ Y.sums, ← first_of P _ _ here, ← second-of P _ _ here)
        Q in (
          record { h₁ = h; h₂ = k; way₁ = W.way; way₂ = Y.way; u = u; v = v; solved = R; middle = middle; first = first; second = second },
          ap₂ P.pair (sym (mended-two E m w u v before middle (lone m w (p / w) h) (lone m w (q / w) k) _ R.first first))
              (sym (mended-two E m w u v before middle (lone m w (p / w) h) (lone m w (q / w) k) _ R.second first))
              ∙ ap (across_in P E m w c) (sym second),
        )
