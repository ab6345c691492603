-- Recover keeps demand 2, and the bytes in lost places play no part in what it answers.
use Rattle.std.specs.Prelude.{◌≡◌, refl, List, ltb, length, get_or, replicate}
use Rattle.std.proofs.Common.{sym, ap₂, ◌∙◌, subst, mul-le-mul_right, arith}
use Rattle.std.proofs.Math.Path.{ap}
use Prim.Native.Nat.{ℕ, zero, suc, ◌*◌, ◌<◌, ◌≤◌, ◌^◌}
use Rattle.std.proofs.Math.Decide.{dec_lt}
use Rattle.code.specs.Refusals.{◌or_else◌}
use Rattle.code.specs.Limits.{Limits, GoodIn, word_refusal_in}
use Rattle.code.specs.LimitsLaws.{word-of-good}
use Rattle.code_services.specs.Marks.{MarkedIn, marks_refusal_in}
use Rattle.code_services.specs.MarksLaws.{marks-of-good}
use Rattle.code.specs.Edition.{Edition, Sound}
use Rattle.code.specs.Word.{is_codeword, Symbols}
use Rattle.code.specs.Marks.{lost_in, excess, Agree}
use Rattle.counting.specs.FirstLaws.{first-most, first-before, first_holds}
use Rattle.code.specs.Stretch.{stretch}
use Rattle.code.specs.StretchLaws.{stretch-length, stretch-below, stretch-count}
use Rattle.code.specs.OneGroupLaws.{agrees-satisfies, satisfies-agrees}
use Rattle.code.specs.Contradiction.{is_broken, contradicting_group}
use Rattle.code.proofs.ContradictionLaws.{sound-filling, broken-never, contradicting-present}
use Rattle.code.specs.Outcome.{Outcome, SameEnd}
use Rattle.code.specs.OutcomeLaws.{same-refusal, same-present, refused-unchanged, nine-group, other-group}
use Rattle.code.specs.Recovery.{Agrees, recovered, Single}
use Rattle.code.specs.RecoveryLaws.{eight-undetermined, undetermined-eight, nine-contradictory, contradictory-nine}
use Rattle.code.specs.RecoveryLaws.{done-determined, determined-done, done-single}
use Rattle.code_services.specs.Recover.{unless_before, recover_refusal_in, recover_in}
use Rattle.code_services.specs.FillableLaws.{fillable}
use Rattle.code_services.specs.RecoverDemand.{recover_end, Named, RecoverDemandTwo}

-- a good shape, n bytes and n marks are not refused 1 to 6
pub good_start : {L : Limits} (m w c : ℕ) (word marks : List ℕ) → MarkedIn L m w c marks → length word ≡ m * w → recover_refusal_in L m w c word marks ≡ 0
unfolding recover_refusal_in
good_start m w c word marks M size = ap₂ ◌or_else◌ (word-of-good m w c (length word) M.good size) (marks-of-good m w c marks M)

module _ {E : Edition} (S : Sound E) (m w c : ℕ) (word marks : List ℕ) (M : MarkedIn E.limits m w c marks) (s : Symbols E (m * w) word) where
  is : recover_in E m w c word marks ≡ recovered E m w c word marks
  unfolding recover_in
  is = ap (λ r. unless_before r (recovered E m w c word marks) word marks) (good_start m w c word marks M s.size)

  few : m ≤ S.r
  few = let h = M.good.few in let k = S.groups-few in omega arith

  narrow : w ≤ E.small
  narrow = let h = M.good.narrow in let k = S.width_narrow in omega arith

  wide : 0 < w
  wide = let g = M.good in omega arith

  number_is : (recover_end E m w c word marks).number ≡ (recovered E m w c word marks).number
  number_is = ap (λ o. o.number) is

  word-is : (recovered E m w c word marks).word ≡ (recover_end E m w c word marks).word
  word-is = ap (λ o. o.word) (sym is)

  single : (recover_end E m w c word marks).number ≡ 0 → Single E m w c word marks
  single e = done-single E S m w c few wide narrow word marks s (sym number_is ∙ e)

  agrees : (recover_end E m w c word marks).number ≡ 0 → Agrees E m w c marks word (recover_end E m w c word marks).word
  agrees e = subst (Agrees E m w c marks word) word-is (single e).agrees

  kept : ¬ ((recover_end E m w c word marks).number ≡ 0) → ((recover_end E m w c word marks).word ≡ word) × ((recover_end E m w c word marks).marks ≡ marks)
  kept n =
      let U = refused-unchanged (2 ^ E.bits) (is_codeword E m w c) (ltb 2 (excess m w c marks))
      (contradicting_group E m w c word marks) word marks (λ e. n (number_is ∙ e)) in
      (ap (λ o. o.word) is ∙ U.0, ap (λ o. o.marks) is ∙ U.1)

  -- the group that a 9 carries
  part-symbols : (g : ℕ) → g < m → Symbols E w (stretch w g word)
  part-symbols g l = record {
    size = stretch-length w g word (subst (λ n. suc g * w ≤ n) (sym s.size) (mul-le-mul_right w l));
    each = stretch-below w g word (2 ^ E.bits) s.each;
  }

  named : Named E m w c word marks (contradicting_group E m w c word marks)
  unfolding contradicting_group
  named = record {
    most = first-most m (is_broken E w c word marks);
    broken = λ l y A.
        broken-never E w c word marks (contradicting_group E m w c word marks) (first_holds m (is_broken E w c word marks) l) y
        (agrees-satisfies E w c _ _ y (part-symbols (contradicting_group E m w c word marks) l).size A);
    lower = λ i l.
        let F = sound-filling E w c word marks i (first-before m (is_broken E w c word marks) i l) in
        let k : i < m = (let h = first-most m (is_broken E w c word marks) in omega arith) in
        (F.x, satisfies-agrees E w c (stretch w i marks) (stretch w i word) F.x (part-symbols i k) F.satisfies);
    few = λ l. elim (dec_lt (lost_in w marks (contradicting_group E m w c word marks)) c) [
      | yes h ↦ h
      | no h ↦
          absurd (broken-never E w c word marks (contradicting_group E m w c word marks) (first_holds m (is_broken E w c word marks) l) _
          (fillable E S w c wide narrow (stretch w (contradicting_group E m w c word marks) word)
          (stretch w (contradicting_group E m w c word marks) marks) (part-symbols (contradicting_group E m w c word marks) l)
          (stretch-length w (contradicting_group E m w c word marks) marks
          (subst (λ n. suc (contradicting_group E m w c word marks) * w ≤ n) (sym M.size) (mul-le-mul_right w l)))
          (subst (λ n. c ≤ n) (sym (stretch-count w (contradicting_group E m w c word marks) marks)) (omega arith))))
    ];
  }

  group-is : (recover_end E m w c word marks).number ≡ 9 → (recover_end E m w c word marks).group ≡ contradicting_group E m w c word marks
  group-is e =
      ap (λ o. o.group) is
      ∙ nine-group (2 ^ E.bits) (is_codeword E m w c) (ltb 2 (excess m w c marks)) (contradicting_group E m w c word marks) word marks (sym number_is ∙ e)

  demand : RecoverDemandTwo E m w c word marks
  demand =
      record {
        eight = (
          (λ e. eight-undetermined E S m w c few wide narrow word marks s (sym number_is ∙ e)),
          (λ U. number_is ∙ undetermined-eight E S m w c few wide narrow word marks s U),
        );
        nine = (
          (λ e. nine-contradictory E S m w c few wide narrow word marks s (sym number_is ∙ e)),
          (λ P. number_is ∙ contradictory-nine E S m w c few wide narrow word marks s P.0 P.1),
        );
        group = λ e. subst (Named E m w c word marks) (sym (group-is e)) named;
        no-group = λ n.
            ap (λ o. o.group) is
            ∙ other-group (2 ^ E.bits) (is_codeword E m w c) (ltb 2 (excess m w c marks)) (contradicting_group E m w c word marks) word marks
            (λ e. n (number_is ∙ e));
        done = (
          (λ e. (done-determined E S m w c few wide narrow word marks s (sym number_is ∙ e), ((recover_end E m w c word marks).word, agrees e))),
          (λ P. number_is ∙ determined-done E S m w c few wide narrow word marks s P.0 P.1.0 P.1.1),
        );
        agrees = agrees;
        only = λ e y A. (single e).only y A ∙ word-is;
        clear = λ e. ap (λ o. o.marks) is ∙ (single e).clear ∙ ap (λ n. replicate n 0) M.size;
        word_kept = λ n. (kept n).0;
        marks-kept = λ n. (kept n).1;
      }

-- Demand 2, for a good shape, n bytes and n marks of 0 or 1.
pub recover-demand-two : {E : Edition} (S : Sound E) (m w c : ℕ) (word marks : List ℕ) → GoodIn E.limits m w c → length word ≡ m * w
    → ((p : ℕ) → get_or word p 0 < 2 ^ E.bits)
    → length marks ≡ m * w → ((p : ℕ) → get_or marks p 0 < 2) → RecoverDemandTwo E m w c word marks
recover-demand-two S m w c word marks good size small marks-size each =
    demand S m w c word marks (record { good = good; size = marks-size; each = each }) (record { size = size; each = small })

-- "The byte standing in a lost place has no effect on any answer": of every call, good or bad, two words of one length that agree at the
-- present places get the same number and group and, where the number is 0, the same word and marks.
pub lost-bytes : (E : Edition) (m w c : ℕ) (word₁ word₂ marks : List ℕ) → length word₁ ≡ length word₂ → Agree (length word₁) marks word₁ word₂
    → SameEnd (recover_in E m w c word₁ marks) (recover_in E m w c word₂ marks)
unfolding recover_in recover_refusal_in
lost-bytes E m w c word₁ word₂ marks size same =
    subst (λ n. SameEnd (recover_in E m w c word₁ marks) (second (word_refusal_in E.limits m w c n or_else marks_refusal_in E.limits m w c marks))) size
    (go (word_refusal_in E.limits m w c (length word₁) or_else marks_refusal_in E.limits m w c marks))
  where
    second : ℕ → Outcome
    second r = unless_before r (recovered E m w c word₂ marks) word₂ marks

    go : (r : ℕ) → SameEnd (unless_before r (recovered E m w c word₁ marks) word₁ marks) (second r)
    go zero =
        same-present (2 ^ E.bits) (is_codeword E m w c) (ltb 2 (excess m w c marks)) (contradicting_group E m w c word₁ marks)
        (contradicting_group E m w c word₂ marks) word₁ word₂ marks (contradicting-present E m w c word₁ word₂ marks size same) size same
    go (suc r) = same-refusal (suc r) (λ z. omega arith) refl refl
