-- Laws: What holds of a gather that has finished, and of one that these calls alone have made.
use Rattle.std.specs.Prelude.{◌≡◌, refl, ◌↔◌, ◌⊎◌, Bool, true, false, List, [], ◌∷◌, ℕ, zero, suc, ◌*◌, ◌^◌, ◌<◌, ltb, length, get_or}
use Rattle.std.proofs.Common.{sym, ap₂, ◌∙◌, subst, arith}
use Rattle.std.proofs.Math.Path.{ap}
use Rattle.std.proofs.Math.Logic.{inl, inr}
use Rattle.std.proofs.lemmas.List.{get_or-replicate}
use Rattle.code.specs.Refusals.{refuse}
use Rattle.code.specs.RefusalsLaws.{unless-refused}
use Rattle.shape.specs.Shapes.{byte_limits}
use Rattle.code.specs.Limits.{GoodIn, shape_refusal_in}
use Rattle.code.specs.LimitsLaws.{refusal-of-good, places-most, word-of-good}
use Rattle.byte_edition.specs.Edition.{byte_edition}
use Rattle.code.specs.Word.{is_codeword}
use Rattle.code.specs.Marks.{excess}
use Rattle.code.specs.Contradiction.{contradicting_group}
use Rattle.code.specs.Outcome.{eight, nine, done}
use Rattle.code.specs.OutcomeLaws.{cases}
use Rattle.code.specs.Recovery.{recovered}
use Rattle.code_services.specs.Judge.{judged_number_in}
use Rattle.code_services.specs.Recover.{unless_before, recover_refusal_in, recover_in}
use Rattle.gather_record.specs.declared.Gather.{Gather}
use Rattle.gather_record.specs.Record.{Whole, gather_places, gather_bytes, gather_marks, gather_refusal, begun, gathering_by, begin_of}
use Rattle.gather_record.specs.RecordLaws.{Open, open-unrefused, open-marks, marks-open, begun-whole, bytes-size, marks-number}
use Rattle.gather_take.specs.Take.{take_refusal, taken, take_of}
use Rattle.gather_take.specs.TakeLaws.{take-record}
use Rattle.gather_finish.specs.Finish.{finish_refusal, gather_recovery, closed, finish_by, finish_of}
use Rattle.gather_finish.specs.FinishLaws.{finish-record, finish-numbers, finish-parts}
use Rattle.gather_history.specs.History.{Stretch, take_number, leaves, GatherCall, Take, Finish, gather_answer, left, run, AllAnswer}
use Rattle.gather_history.specs.Closing.{ClosedHolds, FinishesHolds, GrownHolds, FinishLeaves, RefusalsHold, JudgeHolds}
use Rattle.gather_history.specs.StretchOrderLaws.{leaves-same, takeable, inside-or, Stretched, stretched}

-- ---- a finished record

module _ (g : Gather) (e : gather_refusal g ≡ 22) where
  some : gather_refusal g ≡ 0 → ⊥
  some z = omega arith

  take-closed : (first : ℕ) (new : List ℕ) → take_of first new g ≡ record { number = 22; gather = g }
  unfolding take_of
  take-closed first new =
      ap (λ n. gathering_by n (taken first new g) g) (take-record first (length new) g some ∙ e)

  finish-closed : (word : List ℕ) → finish_of word g ≡ record { number = 22; group = 0; word = word; gather = g }
  unfolding finish_of
  finish-closed word = ap (λ n. finish_by n word g) (finish-record (length word) g some ∙ e)

  answers-closed : (k : GatherCall) → gather_answer k g ≡ 22
  unfolding gather_answer
  answers-closed (Take s) = ap (λ o. o.number) (take-closed s.first s.bytes)
  answers-closed (Finish word) = ap (λ o. o.number) (finish-closed word)

  left-closed : (k : GatherCall) → left k g ≡ g
  unfolding left
  left-closed (Take s) = ap (λ o. o.gather) (take-closed s.first s.bytes)
  left-closed (Finish word) = ap (λ o. o.gather) (finish-closed word)

-- a finished gather stays as it is
pub closed-stays : ClosedHolds
unfolding run AllAnswer
closed-stays g e [] = (refl, tt)
closed-stays g e (k ∷ ks) =
    let ih = closed-stays g e ks in
    let l = left-closed g e k in
    (ap (run ks) l ∙ ih.0, (answers-closed g e k, subst (AllAnswer 22 ks) (sym l) ih.1))

-- ---- a finish that finishes

closed-number : (g : Gather) → Open g → gather_refusal (closed g) ≡ 22
unfolding gather_refusal
closed-number g O = simp (refusal-of-good g.m g.w g.c O.good, O.marked)

closes : (g : Gather) (word : List ℕ) → finish_refusal (length word) g ≡ 0 → (finish_of word g).gather ≡ closed g
unfolding finish_of
closes g word e = ap (λ n. (finish_by n word g).gather) e

-- a finish that is done, or meets 8 or 9, finishes
pub finish-finishes : FinishesHolds
finish-finishes g word e = ap gather_refusal (closes g word e) ∙ closed-number g (finish-parts (length word) g e).opened

-- ---- a record that these calls alone have made

-- whole, and open or finished
record Fair (g : Gather) : Type 0 where
  whole : Whole g
  refusal : (gather_refusal g ≡ 0) ⊎ (gather_refusal g ≡ 22)

taken-open : (s : Stretch) (g : Gather) → Whole g → take_number s g ≡ 0 → Open (leaves s g)
taken-open s g W e =
    let S = stretched s g W e in
    let O = (takeable s g e).opened in
    let good : GoodIn byte_limits (leaves s g).m (leaves s g).w (leaves s g).c = rw (S.m-same, S.w-same, S.c-same) O.good in
    record { good = good; marked = marks-open (leaves s g) S.whole good (few S O); unfinished = S.finished-same ∙ O.unfinished }
  where
    few : Stretched s g (leaves s g) → Open g → (p : ℕ) → p < gather_places (leaves s g) → get_or (leaves s g).marks p 0 < 2
    few S O p l = elim (inside-or s p) [
      | inl w ↦ (
          let k : get_or (leaves s g).marks p 0 ≡ 0 = ap (λ q. get_or (leaves s g).marks q 0) w.2 ∙ (S.inner w.0 w.1).1 in
          omega arith
          )
      | inr o ↦ (
          let h : p < gather_places g = subst (λ n. p < n) (ap₂ (λ a b. a * b) S.m-same S.w-same) l in
          let k = open-marks g O p h in
          let q = (S.outer p o).1 in
          omega arith
          )
    ]

fair-take : (s : Stretch) (g : Gather) → Fair g → Fair (leaves s g)
fair-take s g F = go (take_number s g) refl
  where
    go : (r : ℕ) → take_number s g ≡ r → Fair (leaves s g)
    go zero e = record { whole = (stretched s g F.whole e).whole; refusal = inl (open-unrefused (leaves s g) (taken-open s g F.whole e)) }
    go (suc r) e = subst Fair (sym (leaves-same s g r e)) F

fair-finish : (word : List ℕ) (g : Gather) → Fair g → Fair (finish_of word g).gather
unfolding finish_of
fair-finish word g F = go (finish_refusal (length word) g) refl
  where
    go : (r : ℕ) → finish_refusal (length word) g ≡ r → Fair (finish_by r word g).gather
    go zero e = record {
      whole = record { bytes-long = F.whole.bytes-long; marks-long = F.whole.marks-long };
      refusal = inr (closed-number g (finish-parts (length word) g e).opened);
    }
    go (suc r) e = F

fair-run : (ks : List GatherCall) (g : Gather) → Fair g → Fair (run ks g)
unfolding run left
fair-run [] g F = F
fair-run (Take s ∷ ks) g F = fair-run ks (leaves s g) (fair-take s g F)
fair-run (Finish word ∷ ks) g F = fair-run ks (finish_of word g).gather (fair-finish word g F)

begun-open : (m w c : ℕ) → GoodIn byte_limits m w c → Open (begun m w c)
unfolding begun
begun-open m w c good = record {
  good = good;
  marked = marks-open (begun m w c) (begun-whole m w c) good
      (λ p l. let k = places-most good in let q : get_or (begun m w c).marks p 0 ≡ 1 = get_or-replicate 240 p 1 0 (omega arith) in omega arith);
  unfinished = refl;
}

-- a record that these calls alone have made is never bad
pub gather-grown : GrownHolds
gather-grown m w c good ks =
    (fair-run ks (begun m w c) (record { whole = begun-whole m w c; refusal = inl (open-unrefused (begun m w c) (begun-open m w c good)) })).refusal

-- ---- what a refusal leaves

kept : (r : ℕ) (new old : Gather) → ((gathering_by r new old).number ≡ 0 → ⊥) → (gathering_by r new old).gather ≡ old
kept zero new old some = absurd (some refl)
kept (suc r) new old some = refl

-- the recovery of an open record gives 8 if the excess is above two, else 9 or 0
module _ (g : Gather) (W : Whole g) (O : Open g) where
  large : Bool
  large = ltb 2 (excess g.m g.w g.c (gather_marks g))

  accepted : recover_refusal_in byte_limits g.m g.w g.c (gather_bytes g) (gather_marks g) ≡ 0
  unfolding recover_refusal_in
  accepted = simp (word-of-good g.m g.w g.c (length (gather_bytes g)) O.good (bytes-size g O.good W), marks-number g O.good W, O.marked)

  recovery-is : gather_recovery g ≡ recovered byte_edition g.m g.w g.c (gather_bytes g) (gather_marks g)
  unfolding recover_in
  recovery-is = ap (λ r. unless_before r (recovered byte_edition g.m g.w g.c (gather_bytes g) (gather_marks g)) (gather_bytes g) (gather_marks g)) accepted

  by-large : ((large ≡ true) × ((gather_recovery g).number ≡ 8)) ⊎ ((large ≡ false) × (((gather_recovery g).number ≡ 9) ⊎ ((gather_recovery g).number ≡ 0)))
  unfolding large
  by-large = elim (cases (2 ^ byte_edition.bits) (is_codeword byte_edition g.m g.w g.c) (ltb 2 (excess g.m g.w g.c (gather_marks g)))
      (contradicting_group byte_edition g.m g.w g.c (gather_bytes g) (gather_marks g)) (gather_bytes g) (gather_marks g)) [
        | eight e q ↦ inl (e, ap (λ o. o.number) (recovery-is ∙ q))
        | nine e _ q ↦ inr (e, inl (ap (λ o. o.number) (recovery-is ∙ q)))
        | done e x _ q ↦ inr (e, inr (ap (λ o. o.number) (recovery-is ∙ q)))
      ]

  judged-is : judged_number_in byte_limits g.m g.w g.c (gather_marks g) ≡ refuse 8 large
  unfolding judged_number_in large
  judged-is = simp (marks-number g O.good W, O.marked)

  recovery-numbers : ((gather_recovery g).number ≡ 0) ⊎ (((gather_recovery g).number ≡ 8) ⊎ ((gather_recovery g).number ≡ 9))
  recovery-numbers = elim by-large [
    | inl h ↦ inr (inl h.1)
    | inr h ↦ elim h.1 [ inl n ↦ inr (inr n) | inr z ↦ inl z ]
  ]

  judged-eight : ((gather_recovery g).number ≡ 8) ↔ (judged_number_in byte_limits g.m g.w g.c (gather_marks g) ≡ 8)
  judged-eight = elim by-large [
    | inl h ↦ (λ _. judged-is ∙ ap (refuse 8) h.0, λ _. h.1)
    | inr h ↦ (
        let j : judged_number_in byte_limits g.m g.w g.c (gather_marks g) ≡ 0 = judged-is ∙ ap (refuse 8) h.0 in
        (λ e. absurd (elim h.1 [ inl n ↦ omega arith | inr z ↦ omega arith ]), λ e. absurd (omega arith))
        )
  ]

not-zero : {n : ℕ} → (n ≡ 8) ⊎ (n ≡ 9) → n ≡ 0 → ⊥
not-zero (inl e) z = omega arith
not-zero (inr e) z = omega arith

finish-leaves : (g : Gather) → Whole g → (word : List ℕ) → FinishLeaves (finish_of word g) word g
unfolding finish_of
finish-leaves g W word = go (finish_refusal (length word) g) refl
  where
    go : (r : ℕ) → finish_refusal (length word) g ≡ r → FinishLeaves (finish_by r word g) word g
    go zero e = record {
      done = λ _. refl;
      exception = λ h. (refl, unless-refused _ _ _ (not-zero h));
      refused = λ n k l. elim (recovery-numbers g W (finish-parts (length word) g e).opened) [
        | inl z ↦ absurd (n z)
        | inr h ↦ elim h [ inl z ↦ absurd (k z) | inr z ↦ absurd (l z) ]
      ];
    }
    go (suc r) e =
        let some = finish-numbers (length word) g in
        record {
          done = λ z. absurd (omega arith);
          exception = λ h. absurd (elim some [
            | inl l ↦ elim h [ inl k ↦ omega arith | inr k ↦ omega arith ]
            | inr l ↦ elim h [ inl k ↦ omega arith | inr k ↦ omega arith ]
          ]);
          refused = λ n k l. (refl, refl);
        }

-- what every refusal leaves
pub refusals : RefusalsHold
unfolding begin_of take_of
refusals g = (
  λ m w c some. kept (shape_refusal_in byte_limits m w c) (begun m w c) g some,
  λ first new some. kept (take_refusal first (length new) g) (taken first new g) g some,
  finish-leaves g,
)

-- Judge tells whether a finish meets 8
pub judge-tells : JudgeHolds
unfolding finish_of
judge-tells g W word e =
    let n : (finish_of word g).number ≡ (gather_recovery g).number = ap (λ r. (finish_by r word g).number) e in
    let q = judged-eight g W (finish-parts (length word) g e).opened in
    (λ h. q.0 (sym n ∙ h), λ h. n ∙ q.1 h)
