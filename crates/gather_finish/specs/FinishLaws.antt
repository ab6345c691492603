-- Laws of Finish.
use Rattle.std.specs.Prelude.{◌≡◌, true, false, not, List, ◌⊎◌, eqb, ltb, length, Result, Ok, Err}
use Rattle.std.proofs.Math.Path.{refl, sym, ap, subst}
use Rattle.std.proofs.Common.{◌∙◌, inl, inr, arith, eqb-true, eq-eqb, ne_eqb}
use Rattle.std.proofs.Math.Bool.{Bool}
use Prim.Native.Nat.{ℕ, zero, suc, ◌^◌, ◌≤◌}
use Rattle.std.proofs.Math.Decide.{ℕ_discrete}
use Rattle.std.proofs.lemmas.Bool.{not-false}
use Rattle.answers.specs.declared.Refusal.{Refusal}
use Rattle.answers.specs.Answers.{refusal_number, mending_at, mending_number, mending_group, Listed}
use Rattle.answers.specs.AnswersLaws.{refusal-some, refusal-no-group, mending-at, mending-is as answer-is, mending-some as answer-some, mending-no-group}
use Rattle.code_services.specs.PlainLaws.{recover-listed}
use Rattle.code.specs.Refusals.{refuse, ◌or_else◌}
use Rattle.code.specs.RefusalsLaws.{refuse-zero, or_else-zero, or_else-first}
use Rattle.shape.specs.Shapes.{byte_limits}
use Rattle.shape.specs.Laws.{shape-most}
use Rattle.code.specs.Limits.{shape_refusal_in}
use Rattle.byte_edition.specs.Edition.{byte_edition}
use Rattle.code.specs.Word.{is_codeword}
use Rattle.code.specs.Marks.{excess}
use Rattle.code.specs.Contradiction.{contradicting_group}
use Rattle.code.specs.OutcomeLaws.{other-group}
use Rattle.code.specs.Recovery.{recovered}
use Rattle.code_services.specs.Marks.{are_marks}
use Rattle.code_services.specs.Recover.{unless_before, recover_in, recover_refusal_in}
use Rattle.gather_record.specs.declared.Gather.{Gather}
use Rattle.gather_record.specs.Record.{gather_places, gather_marks, gather_refusal}
use Rattle.gather_record.specs.RecordLaws.{Open, open-parts}
use Rattle.gather_finish.specs.Finish.{finish_refusal, gather_recovery, closed, finish_by, finish_of, FinishGives}

-- ---- the refusals before 8 and 9, case by case

module _ (size : ℕ) (g : Gather) where
  pub finish-record : (gather_refusal g ≡ 0 → ⊥) → finish_refusal size g ≡ gather_refusal g
  unfolding finish_refusal
  finish-record h = or_else-first _ _ h

  -- 5 comes after the refusals of the record
  pub finish-other : (size ≡ gather_places g → ⊥) → finish_refusal size g ≡ (gather_refusal g or_else 5)
  unfolding finish_refusal
  finish-other h = ap (λ b. gather_refusal g or_else refuse 5 (not b)) (ne_eqb size (gather_places g) h)

  pub finish-same : size ≡ gather_places g → finish_refusal size g ≡ gather_refusal g
  unfolding finish_refusal
  finish-same h = ap (λ b. gather_refusal g or_else refuse 5 (not b)) (eq-eqb size (gather_places g) h) ∙ none (gather_refusal g)
    where
      none : (r : ℕ) → (r or_else 0) ≡ r
      none zero = refl
      none (suc r) = refl

  pub finish-fit : gather_refusal g ≡ 0 → size ≡ gather_places g → finish_refusal size g ≡ 0
  finish-fit e h = finish-same h ∙ e

  -- none of them is 8 or 9
  pub finish-numbers : (finish_refusal size g ≤ 6) ⊎ (finish_refusal size g ≡ 22)
  unfolding finish_refusal gather_refusal
  finish-numbers =
      go (shape_refusal_in byte_limits g.m g.w g.c) (not (are_marks (gather_marks g))) (ltb 1 g.finished) (eqb g.finished 1)
      (not (eqb size (gather_places g)))
      (shape-most g.m g.w g.c)
    where
      all : ℕ → Bool → Bool → Bool → Bool → ℕ
      all s u v x y = (s or_else refuse 6 u or_else refuse 6 v or_else refuse 22 x) or_else refuse 5 y

      go : (s : ℕ) (u v x y : Bool) → s ≤ 4 → (all s u v x y ≤ 6) ⊎ (all s u v x y ≡ 22)
      go zero true v x y l = inl (omega arith)
      go zero false true x y l = inl (omega arith)
      go zero false false true y l = inr refl
      go zero false false false true l = inl (omega arith)
      go zero false false false false l = inl (omega arith)
      go (suc s) u v x y l = inl (omega arith)

-- a finish that is not refused before 8 and 9
pub record Finishable (size : ℕ) (g : Gather) : Type 0 where
  pub unrefused : gather_refusal g ≡ 0
  pub opened : Open g
  pub fits : size ≡ gather_places g

pub finish-parts : (size : ℕ) (g : Gather) → finish_refusal size g ≡ 0 → Finishable size g
unfolding finish_refusal
finish-parts size g e =
    let z = or_else-zero _ _ e in
    record { unrefused = z.0; opened = open-parts g z.0; fits = eqb-true _ _ (not-false _ (refuse-zero 4 _ z.1)) }

-- ---- the group that the recovery's answer carries

-- another number than 9 carries no group
recovery-group : (m w c : ℕ) (word marks : List ℕ) → ((recover_in byte_edition m w c word marks).number ≡ 9 → ⊥)
    → (recover_in byte_edition m w c word marks).group ≡ 0
unfolding recover_in
recovery-group m w c word marks = go (recover_refusal_in byte_limits m w c word marks)
  where
    go : (r : ℕ) → ((unless_before r (recovered byte_edition m w c word marks) word marks).number ≡ 9 → ⊥)
        → (unless_before r (recovered byte_edition m w c word marks) word marks).group ≡ 0
    go zero = other-group (2 ^ byte_edition.bits) (is_codeword byte_edition m w c) (ltb 2 (excess m w c marks)) (contradicting_group byte_edition m w c word marks)
        word marks
    go (suc r) = λ _. refl

mending-group : (r group : ℕ) → ((r ≡ 9 → ⊥) → group ≡ 0) → mending_group (mending_at r group) ≡ group
mending-group r group none = elim (ℕ_discrete r 9) [
  | yes e ↦ ap (λ n. mending_group (mending_at n group)) e
  | no n ↦ mending-no-group r group n ∙ sym (none n)
]

-- ---- what Finish gives

pub mending-is : (n group : ℕ) {a : Result Unit Refusal} → Listed n → a ≡ mending_at n group → n ≡ mending_number a
mending-is n group l e = answer-is n group l e

pub mending-some : (n group : ℕ) {f : Refusal} → Err f ≡ mending_at n group → n ≡ 0 → ⊥
mending-some n group e h = answer-some n group e h

not-nine : {r : ℕ} → (r ≤ 6) ⊎ (r ≡ 22) → r ≡ 9 → ⊥
not-nine (inl l) e = omega arith
not-nine (inr l) e = omega arith

module _ (word : List ℕ) (g : Gather) where
  finishing-refused : (r : ℕ) → (r ≡ 0 → ⊥) → finish_by r word g ≡ record { number = r; group = 0; word = word; gather = g }
  finishing-refused zero some = absurd (some refl)
  finishing-refused (suc r) some = refl

  pub finish-refused : (e : Refusal) → refusal_number e ≡ finish_refusal (length word) g → (h : Gather) → h ≡ g → FinishGives (finish_of word g) word h (Err e)
  unfolding finish_of
  finish-refused e is h q =
      let other : refusal_number e ≡ 9 → ⊥ = λ k. not-nine (finish-numbers (length word) g) (sym is ∙ k) in
      let none = refusal-no-group e other in
      subst (λ n. FinishGives (finish_by n word g) word h (Err e)) is
      (subst (λ o. FinishGives o word h (Err e)) (sym (finishing-refused (refusal_number e) (refusal-some e))) (record {
        word-is = refl;
        gather-is = q;
        answer-is = sym (ap (mending_at (refusal_number e)) (sym none) ∙ mending-at (Err e));
        number_is = refl;
        group-is = none;
      }))

  pub finish-recovered : finish_refusal (length word) g ≡ 0 → (word' : List ℕ) (h : Gather) (a : Result Unit Refusal) → word' ≡ (finish_by 0 word g).word → h ≡ closed g
      → a ≡ mending_at (gather_recovery g).number (gather_recovery g).group → FinishGives (finish_of word g) word' h a
  unfolding finish_of
  finish-recovered e word' h a d k q =
      subst (λ n. FinishGives (finish_by n word g) word' h a) (sym e)
      (record {
        word-is = d;
        gather-is = k;
        answer-is = q;
        number_is = sym (mending-is _ _ (recover-listed byte_edition g.m g.w g.c _ _) q);
        group-is = ap mending_group q ∙ mending-group _ _ (recovery-group g.m g.w g.c _ _);
      })
