-- Repair keeps demand 2, and the bytes in lost places play no part in what it answers.
use Rattle.std.specs.Prelude.{◌≡◌, ◌↔◌, false, not, List, ℕ, zero, suc, ◌+◌, ◌*◌, ◌<◌, ◌≤◌, ◌^◌, ltb, eqb, get_or}
use Rattle.std.proofs.Math.Path.{refl, sym, ap, subst}
use Rattle.std.proofs.Common.{ap₂, ◌∙◌, ⊎_elim, mul-le-mul_right, arith}
use Rattle.std.proofs.Math.Decide.{ℕ_discrete}
use borrow.Author.Tests.{lt-ltb, ltb-true, not-false}
use Rattle.std.proofs.Math.ListN.{length, replicate}
use Rattle.code.specs.Refusals.{refuse, ◌or_else◌}
use Rattle.code.specs.RefusalsLaws.{refuse-zero, or_else-zero}
use Rattle.code.specs.Limits.{GoodIn, word_refusal_in}
use Rattle.code_services.specs.Marks.{marks_refusal_in}
use Rattle.code.specs.Edition.{Edition, Sound}
use Rattle.code.specs.Word.{is_local, Symbols}
use Rattle.code.specs.Marks.{lost, lost_in}
use Rattle.code.specs.Outcome.{Outcome, SameEnd}
use Rattle.code.specs.OutcomeLaws.{same-present, refused-unchanged, answered-length, answered-marks, nine-group, other-group}
use Rattle.code.specs.Outcome as Outcome
use Rattle.code.specs.Stretch.{stretch, with_stretch}
use Rattle.code.specs.StretchLaws.{stretch-at, stretch-length, stretch-below, stretch-count, stretch-with}
use Rattle.code.specs.StretchLaws.{with-same, with-length, with-before, with-after}
use Rattle.code.specs.Repair.{repaired, repaired_group}
use Rattle.code.specs.RepairLaws.{done-single}
use Rattle.code.specs.OneGroup.{LocallyAgrees, LocallyUndetermined}
use Rattle.code.specs.OneGroupLaws.{agrees-satisfies, satisfies-agrees, undetermined-exactly, local-eight, local-nine, local-done}
use Rattle.code_services.specs.Recover.{unless_before, recover_refusal_in}
use Rattle.code_services.specs.AttemptLaws.{accepted}
use Rattle.code_services.specs.RecoverDemandLaws.{good_start}
use Rattle.code_services.specs.Repair.{repair_in, repair_refusal_in}
use Rattle.code_services.specs.RepairLaws.{service-refused}
use Rattle.code_services.specs.RepairDemand.{Outside, repair_end, OwnAgrees, RepairDemandTwo, SameRepair}

-- ---- of a call that is not refused 1 to 7: the repair of the group's stretch, put in its place
module _ (E : Edition) (m w c g : ℕ) (word marks : List ℕ) (not-refused : repair_refusal_in E.limits m w c g word marks ≡ 0) (l : g < m)
    (size : length word ≡ m * w) (marks-size : length marks ≡ m * w) where
  o : Outcome
  o = repaired E w c g (stretch w g word) (stretch w g marks)

  is : repair_in E m w c g word marks ≡ repaired_group E w c g word marks
  unfolding repair_in
  is = ap (λ r. unless_before r (repaired_group E w c g word marks) word marks) not-refused

  number_is : (repair_end E m w c g word marks).number ≡ o.number
  unfolding o
  number_is = ap (λ o. o.number) is

  word-is : (repair_end E m w c g word marks).word ≡ with_stretch w g word o.word
  unfolding o
  word-is = ap (λ o. o.word) is

  marks-is : (repair_end E m w c g word marks).marks ≡ with_stretch w g marks o.marks
  unfolding o
  marks-is = ap (λ o. o.marks) is

  fits : suc g * w ≤ length word
  fits = subst (λ n. suc g * w ≤ n) (sym size) (mul-le-mul_right w l)

  fits-marks : suc g * w ≤ length marks
  fits-marks = subst (λ n. suc g * w ≤ n) (sym marks-size) (mul-le-mul_right w l)

  o-size : length o.word ≡ w
  unfolding o
  o-size =
      answered-length (2 ^ E.bits) (λ x. is_local E w c x 0) (ltb c (lost_in w (stretch w g marks) 0)) g (stretch w g word) (stretch w g marks)
      ∙ stretch-length w g word fits

  o-marks-size : length o.marks ≡ w
  unfolding o
  o-marks-size =
      answered-marks (2 ^ E.bits) (λ x. is_local E w c x 0) (ltb c (lost_in w (stretch w g marks) 0)) g (stretch w g word) (stretch w g marks)
      ∙ stretch-length w g marks fits-marks

  own-word : stretch w g (repair_end E m w c g word marks).word ≡ o.word
  own-word = ap (stretch w g) word-is ∙ stretch-with w g word o.word fits o-size

  own-marks : stretch w g (repair_end E m w c g word marks).marks ≡ o.marks
  own-marks = ap (stretch w g) marks-is ∙ stretch-with w g marks o.marks fits-marks o-marks-size

  kept : ¬ ((repair_end E m w c g word marks).number ≡ 0) → ((repair_end E m w c g word marks).word ≡ word) × ((repair_end E m w c g word marks).marks ≡ marks)
  unfolding o
  kept n =
      let U = refused-unchanged (2 ^ E.bits) (λ x. is_local E w c x 0) (ltb c (lost_in w (stretch w g marks) 0)) g (stretch w g word) (stretch w g marks)
      (λ e. n (number_is ∙ e)) in (
        word-is ∙ ap (with_stretch w g word) U.0 ∙ with-same w g word fits,
        marks-is ∙ ap (with_stretch w g marks) U.1 ∙ with-same w g marks fits-marks,
      )

  outside : (p : ℕ) → Outside w g p
      → (get_or (repair_end E m w c g word marks).word p 0 ≡ get_or word p 0) × (get_or (repair_end E m w c g word marks).marks p 0 ≡ get_or marks p 0)
  outside p = ⊎_elim
      (λ h. (
        ap (λ x. get_or x p 0) word-is ∙ with-before w g word fits o.word o-size p h,
        ap (λ x. get_or x p 0) marks-is ∙ with-before w g marks fits-marks o.marks o-marks-size p h,
      ))
      (λ h. (
        ap (λ x. get_or x p 0) word-is ∙ with-after w g word fits o.word o-size p h,
        ap (λ x. get_or x p 0) marks-is ∙ with-after w g marks fits-marks o.marks o-marks-size p h,
      ))

  module _ (S : Sound E) (good : GoodIn E.limits m w c) (small : (p : ℕ) → get_or word p 0 < 2 ^ E.bits) where
    narrow : w ≤ E.small
    narrow = let h = good.narrow in let k = S.width_narrow in omega arith

    wide : 0 < w
    wide = let k = good.wide in omega arith

    part-symbols : Symbols E w (stretch w g word)
    part-symbols = record { size = stretch-length w g word fits; each = stretch-below w g word (2 ^ E.bits) small }

    eight : ((repair_end E m w c g word marks).number ≡ 8) ↔ LocallyUndetermined E w c (stretch w g marks)
    unfolding o
    eight =
        let E = local-eight E S w c wide narrow (stretch w g marks) g (stretch w g word) part-symbols in
        ((λ e. E.0 (sym number_is ∙ e)), (λ U. number_is ∙ E.1 U))

    single : (repair_end E m w c g word marks).number ≡ 0
        → Outcome.Single (2 ^ E.bits) (λ x. is_local E w c x 0) (ltb c (lost_in w (stretch w g marks) 0)) g (stretch w g word) (stretch w g marks)
    unfolding o
    single e = done-single E S w c wide narrow (stretch w g word) (stretch w g marks) part-symbols g (sym number_is ∙ e)

    demand : RepairDemandTwo E m w c g word marks
    unfolding o
    demand =
        let N = local-nine E S w c wide narrow (stretch w g marks) g (stretch w g word) part-symbols in
        let D = local-done E S w c wide narrow (stretch w g marks) g (stretch w g word) part-symbols in
        let U = undetermined-exactly E S w c wide narrow (stretch w g marks) in
        record {
          eight = eight;
          many = (
            (λ e. subst (λ n. c < n) (stretch-count w g marks) (U.0 (eight.0 e))),
            (λ h. eight.1 (U.1 (subst (λ n. c < n) (sym (stretch-count w g marks)) h))),
          );
          nine = ((λ e. N.0 (sym number_is ∙ e)), (λ P. number_is ∙ N.1 P));
          group = λ e.
              ap (λ o. o.group) is
              ∙ nine-group (2 ^ E.bits) (λ x. is_local E w c x 0) (ltb c (lost_in w (stretch w g marks) 0)) g (stretch w g word) (stretch w g marks)
              (sym number_is ∙ e);
          no-group = λ n.
              ap (λ o. o.group) is
              ∙ other-group (2 ^ E.bits) (λ x. is_local E w c x 0) (ltb c (lost_in w (stretch w g marks) 0)) g (stretch w g word) (stretch w g marks)
              (λ e. n (number_is ∙ e));
          done = ((λ e. D.0 (sym number_is ∙ e)), (λ P. number_is ∙ D.1 P));
          agrees = λ e.
              subst (OwnAgrees E m w c g word marks) (sym own-word)
              (satisfies-agrees E w c (stretch w g marks) (stretch w g word) o.word part-symbols (single e).passes);
          only = λ e y A. (single e).only y (agrees-satisfies E w c (stretch w g marks) (stretch w g word) y part-symbols.size A) ∙ sym own-word;
          clear = λ e. own-marks ∙ (single e).clear ∙ ap (λ n. replicate n 0) (stretch-length w g marks fits-marks);
          word_size = ap length word-is ∙ with-length w g word fits o.word o-size ∙ size;
          word-outside = λ p h. (outside p h).0;
          marks-size = ap length marks-is ∙ with-length w g marks fits-marks o.marks o-marks-size ∙ marks-size;
          marks-outside = λ p h. (outside p h).1;
          word_kept = λ n. (kept n).0;
          marks-kept = λ n. (kept n).1;
        }

-- Demand 2, for a good shape, n bytes, n marks of 0 or 1 and a group number below m.
pub repair-demand-two : {E : Edition} (S : Sound E) (m w c g : ℕ) (word marks : List ℕ) → GoodIn E.limits m w c → length word ≡ m * w
    → ((p : ℕ) → get_or word p 0 < 2 ^ E.bits)
    → length marks ≡ m * w → ((p : ℕ) → get_or marks p 0 < 2) → g < m → RepairDemandTwo E m w c g word marks
unfolding repair_refusal_in
repair-demand-two {E} S m w c g word marks good size small marks-size each l =
    demand E m w c g word marks
    (ap₂ (λ r b. r or_else refuse 7 (not b)) (good_start m w c word marks (record { good = good; size = marks-size; each = each }) size) (lt-ltb g m l))
    l size marks-size S good small

-- ---- "The byte standing in a lost place has no effect on any answer"
module _ (E : Edition) (m w c g : ℕ) (word₁ word₂ marks : List ℕ) (size : length word₁ ≡ length word₂)
    (same : (j : ℕ) → j < w → lost marks (g * w + j) ≡ false → get_or word₁ (g * w + j) 0 ≡ get_or word₂ (g * w + j) 0) where
  refusal-same : repair_refusal_in E.limits m w c g word₁ marks ≡ repair_refusal_in E.limits m w c g word₂ marks
  unfolding repair_refusal_in recover_refusal_in
  refusal-same = ap (λ n. (word_refusal_in E.limits m w c n or_else marks_refusal_in E.limits m w c marks) or_else refuse 7 (not (ltb g m))) size

  -- a call that is refused 1 to 7
  refused-alike : ¬ (repair_refusal_in E.limits m w c g word₁ marks ≡ 0) → SameRepair E m w c g word₁ word₂ marks
  refused-alike n =
      let r = repair_refusal_in E.limits m w c g word₁ marks in
      let e : (repair_end E m w c g word₁ marks).number ≡ r = ap (λ o. o.number) (service-refused E m w c g word₁ marks r refl n) in
      let f : (repair_end E m w c g word₂ marks).number ≡ r = ap (λ o. o.number) (service-refused E m w c g word₂ marks r refusal-same n) in
      record {
        number_same = e ∙ sym f;
        group-same =
            ap (λ o. o.group) (service-refused E m w c g word₁ marks r refl n)
            ∙ sym (ap (λ o. o.group) (service-refused E m w c g word₂ marks r refusal-same n));
        part_same = λ z. absurd (n (sym e ∙ z));
        marks-same = λ z. absurd (n (sym e ∙ z));
      }

  -- the two stretches by themselves
  parts-alike : suc g * w ≤ length word₁ → suc g * w ≤ length word₂
      → SameEnd (repaired E w c g (stretch w g word₁) (stretch w g marks)) (repaired E w c g (stretch w g word₂) (stretch w g marks))
  parts-alike f₁ f₂ =
      same-present (2 ^ E.bits) (λ x. is_local E w c x 0) (ltb c (lost_in w (stretch w g marks) 0)) g g (stretch w g word₁) (stretch w g word₂)
      (stretch w g marks) refl (stretch-length w g word₁ f₁ ∙ sym (stretch-length w g word₂ f₂)) λ j k q.
      let h : j < w = subst (λ n. j < n) (stretch-length w g word₁ f₁) k in
      stretch-at w g word₁ j h ∙ same j h (ap (λ b. eqb b 1) (sym (stretch-at w g marks j h)) ∙ q) ∙ sym (stretch-at w g word₂ j h)

  -- a call that is not
  accepted-alike : repair_refusal_in E.limits m w c g word₁ marks ≡ 0 → SameRepair E m w c g word₁ word₂ marks
  unfolding repair_refusal_in o
  accepted-alike e =
      let z = or_else-zero (recover_refusal_in E.limits m w c word₁ marks) (refuse 7 (not (ltb g m))) e in
      let A = accepted m w c word₁ marks (recover_refusal_in E.limits m w c word₁ marks) refl z.0 in
      let l : g < m = ltb-true g m (not-false (ltb g m) (refuse-zero 6 (not (ltb g m)) z.1)) in
      let e₂ : repair_refusal_in E.limits m w c g word₂ marks ≡ 0 = sym refusal-same ∙ e in
      let s₂ : length word₂ ≡ m * w = sym size ∙ A.word_size in
      let f₁ = fits E m w c g word₁ marks e l A.word_size A.marks-size in
      let f₂ = fits E m w c g word₂ marks e₂ l s₂ A.marks-size in
      let P = parts-alike f₁ f₂ in
      let n₁ = number_is E m w c g word₁ marks e l A.word_size A.marks-size in
      record {
        number_same = n₁ ∙ P.number ∙ sym (number_is E m w c g word₂ marks e₂ l s₂ A.marks-size);
        group-same =
            ap (λ o. o.group) (is E m w c g word₁ marks e l A.word_size A.marks-size) ∙ P.group
            ∙ sym (ap (λ o. o.group) (is E m w c g word₂ marks e₂ l s₂ A.marks-size));
        part_same = λ q.
            own-word E m w c g word₁ marks e l A.word_size A.marks-size ∙ P.word (sym n₁ ∙ q)
            ∙ sym (own-word E m w c g word₂ marks e₂ l s₂ A.marks-size);
        marks-same = λ q.
            marks-is E m w c g word₁ marks e l A.word_size A.marks-size ∙ ap (with_stretch w g marks) (P.marks (sym n₁ ∙ q))
            ∙ sym (marks-is E m w c g word₂ marks e₂ l s₂ A.marks-size);
      }

  -- of every call, good or bad, and every two words of one length that agree at the present places of the group
  pub lost-bytes : SameRepair E m w c g word₁ word₂ marks
  lost-bytes = elim (ℕ_discrete (repair_refusal_in E.limits m w c g word₁ marks) 0) [
    | yes e ↦ accepted-alike e
    | no n ↦ refused-alike n
  ]
