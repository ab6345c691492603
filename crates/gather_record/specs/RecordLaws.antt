-- Laws of the record of a gather.
use Rattle.std.specs.Prelude.{◌≡◌, refl, true, not, ℕ, zero, suc, ◌*◌, ◌<◌, T, eqb, ltb, length, get_or, Ok, Err}
use Rattle.std.proofs.Math.Path.{sym}
use Rattle.std.proofs.Common.{ap, ◌∙◌, subst, arith, ltb-false, length-take-le, get_or-take}
use Rattle.std.proofs.lemmas.Bool.{eqb-false, not-false}
use Rattle.answers.specs.declared.Refusal.{Refusal}
use Rattle.answers.specs.Answers.{refusal_number}
use Rattle.answers.specs.AnswersLaws.{refusal-some}
use Rattle.code.specs.Refusals.{refuse, ◌or_else◌}
use Rattle.code.specs.RefusalsLaws.{refuse-zero, or_else-zero, or_else-first}
use Rattle.shape.specs.Shapes.{byte_limits}
use Rattle.code.specs.Limits.{GoodIn, shape_refusal_in}
use Rattle.code.specs.LimitsLaws.{good-of-refusal, refusal-of-good, places-most, word-of-good}
use Rattle.code_services.specs.Marks.{are_marks, marks_refusal_in}
use Rattle.code_services.specs.MarksLaws.{marks-each, each-mark}
use Rattle.gather_record.specs.declared.Gather.{Gather}
use Rattle.gather_record.specs.Record.{gather_places, gather_bytes, gather_marks, Whole, gather_refusal, begun, gathering_by, GatherGives}

gathering-refused : (r : ℕ) → (r ≡ 0 → ⊥) → (new old : Gather) → gathering_by r new old ≡ record { number = r; gather = old }
gathering-refused zero some new old = absurd (some refl)
gathering-refused (suc r) some new old = refl

pub gives-refused : (r : ℕ) (e : Refusal) → refusal_number e ≡ r → (new old : Gather) → GatherGives (gathering_by r new old) old (Err e)
gives-refused r e is new old =
    subst (λ o. GatherGives o old (Err e)) (sym (gathering-refused r (λ z. refusal-some e (is ∙ z)) new old)) (record { gather-is = refl; number_is = is })

pub gives-done : (r : ℕ) → r ≡ 0 → (new old : Gather) → GatherGives (gathering_by r new old) new (Ok tt)
gives-done r e new old = subst (λ n. GatherGives (gathering_by n new old) new (Ok tt)) (sym e) (record { gather-is = refl; number_is = refl })

-- ---- the refusal of a record, case by case

module _ (g : Gather) where
  pub shape-bad : (shape_refusal_in byte_limits g.m g.w g.c ≡ 0 → ⊥) → gather_refusal g ≡ shape_refusal_in byte_limits g.m g.w g.c
  unfolding gather_refusal
  shape-bad h = or_else-first _ _ h

  module _ (good : GoodIn byte_limits g.m g.w g.c) (whole : Whole g) where
    pub marks-size : length (gather_marks g) ≡ g.m * g.w
    marks-size = let k = places-most good in length-take-le _ g.marks (omega (arith, whole.marks-long))

    pub bytes-size : length (gather_bytes g) ≡ g.m * g.w
    bytes-size = let k = places-most good in length-take-le _ g.bytes (omega (arith, whole.bytes-long))

    pub marks-number : marks_refusal_in byte_limits g.m g.w g.c (gather_marks g) ≡ refuse 6 (not (are_marks (gather_marks g)))
    unfolding marks_refusal_in
    marks-number = simp (word-of-good g.m g.w g.c (length (gather_marks g)) good marks-size)

    pub marks-bad : (marks_refusal_in byte_limits g.m g.w g.c (gather_marks g) ≡ 0 → ⊥)
        → gather_refusal g ≡ marks_refusal_in byte_limits g.m g.w g.c (gather_marks g)
    unfolding gather_refusal
    marks-bad h = simp (refusal-of-good g.m g.w g.c good, ← marks-number) (or_else-first _ _ h)

    pub record-good : marks_refusal_in byte_limits g.m g.w g.c (gather_marks g) ≡ 0
        → gather_refusal g ≡ refuse 6 (ltb 1 g.finished) or_else refuse 22 (eqb g.finished 1)
    unfolding gather_refusal
    record-good e = simp (refusal-of-good g.m g.w g.c good, sym marks-number ∙ e)

-- a record that is not refused: a good shape, n marks of 0 or 1, not finished
pub record Open (g : Gather) : Type 0 where
  pub good : GoodIn byte_limits g.m g.w g.c
  pub marked : are_marks (gather_marks g) ≡ true
  pub unfinished : g.finished ≡ 0

pub open-parts : (g : Gather) → gather_refusal g ≡ 0 → Open g
unfolding gather_refusal
open-parts g e =
    let e₁ = or_else-zero _ _ e in
    let e₂ = or_else-zero _ _ e₁.1 in
    let e₃ = or_else-zero _ _ e₂.1 in
    let f = eqb-false g.finished 1 (refuse-zero 21 _ e₃.1) in
    let l = ltb-false 1 g.finished (refuse-zero 5 _ e₃.0) in
    record {
      good = good-of-refusal g.m g.w g.c e₁.0;
      marked = not-false _ (refuse-zero 5 _ e₂.0);
      unfinished = omega arith;
    }

pub open-unrefused : (g : Gather) → Open g → gather_refusal g ≡ 0
unfolding gather_refusal
open-unrefused g O = simp (refusal-of-good g.m g.w g.c O.good, O.marked, O.unfinished)

-- the marks of an open record are 0 or 1, place by place
pub open-marks : (g : Gather) → Open g → (p : ℕ) → p < gather_places g → get_or g.marks p 0 < 2
open-marks g O p l =
    subst (λ n. n < 2) (get_or-take (gather_places g) g.marks p 0 l) (each-mark (gather_marks g) (subst T (sym O.marked) tt) p)

pub marks-open : (g : Gather) → Whole g → GoodIn byte_limits g.m g.w g.c → ((p : ℕ) → p < gather_places g → get_or g.marks p 0 < 2)
    → are_marks (gather_marks g) ≡ true
marks-open g W good h = marks-each (gather_marks g) each
  where
    each : (p : ℕ) → p < length (gather_marks g) → get_or (gather_marks g) p 0 < 2
    each p l =
        let k : p < gather_places g = omega (arith, marks-size g good W) in
        subst (λ n. n < 2) (sym (get_or-take (gather_places g) g.marks p 0 k)) (h p k)

pub begun-whole : (m w c : ℕ) → Whole (begun m w c)
unfolding begun
begun-whole m w c = record { bytes-long = refl; marks-long = refl }
