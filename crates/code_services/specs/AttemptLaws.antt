-- Laws: An attempt with the candidate: it is the codeword that agrees, or none does.
use Rattle.std.specs.Prelude.{◌≡◌, refl, true, false, List, ◌↔◌, ℕ, suc, ◌*◌, ◌^◌, ◌<◌, ◌≤◌, T, ltb, length, get_or}
use Rattle.std.proofs.Common.{sym, ◌∙◌, subst, mul-le-mul_right, arith, le-ltb}
use Rattle.std.proofs.Math.Path.{ap}
use Rattle.std.proofs.Math.Decide.{dec_le}
use Rattle.code.specs.Edition.{Edition, Sound}
use Rattle.code.specs.Word.{is_codeword, Symbols}
use Rattle.code.specs.Marks.{excess}
use Rattle.code.specs.Stretch.{stretch}
use Rattle.code.specs.StretchLaws.{stretch-length, stretch-below, stretch-count}
use Rattle.code.specs.Outcome.{refused, contradictory, done_with}
use Rattle.code.specs.OutcomeLaws.{eight-large}
use Rattle.code.specs.Contradiction.{contradicting_group}
use Rattle.code.proofs.ContradictionLaws.{same-groups}
use Rattle.code.specs.Recovery.{Agrees, recovered}
use Rattle.code.specs.RecoveryLaws.{recovered-eight, recovered-nine, recovered-done}
use Rattle.code.specs.RefusalsLaws.{or_else-zero}
use Rattle.code.specs.Limits.{Limits, GoodIn, word_refusal_in}
use Rattle.code.specs.LimitsLaws.{good-of-word}
use Rattle.code_services.specs.Marks.{marks_refusal_in}
use Rattle.code_services.specs.MarksLaws.{good-of-marks}
use Rattle.code_engine.specs.Tests.{broken_group_in}
use Rattle.code_engine.specs.Mended.{IsCandidateIn}
use Rattle.code_services.specs.Recover.{unless_before, recover_refusal_in, recover_in}
use Rattle.code_services.specs.RecoverLaws.{unless-before}
use Rattle.code_services.specs.Attempt.{FullSatisfiedIn, AttemptIn, AcceptedIn}
use Rattle.code_services.specs.FillableLaws.{fillable}

module _ {E : Edition} (m w c : ℕ) (marks word x : List ℕ) (size : length word ≡ m * w) (small : (p : ℕ) → get_or x p 0 < 2 ^ E.bits)
    (C : IsCandidateIn E m w c marks word x) where
  group-named : broken_group_in E m w c x ≡ contradicting_group E m w c word marks
  unfolding broken_group_in
  group-named = same-groups E m w c word marks x size C.size small C.present C.satisfied

  pub attempt-done : is_codeword E m w c x ≡ true → AttemptIn E m w c marks word x (record { codeword = true; group = broken_group_in E m w c x })
  attempt-done e = record {
    done = λ _. record {
      codeword = record { symbols = record { size = C.size; each = small }; zero = subst T (sym e) tt };
      agree = C.present;
    };
    failed = λ f. absurd (let z : ◌≡◌ {A = ℕ} 0 1 = cc in omega arith);
    group = group-named;
  }

  pub attempt-failed : is_codeword E m w c x ≡ false → AttemptIn E m w c marks word word (record { codeword = false; group = broken_group_in E m w c x })
  attempt-failed e = record {
    done = λ f. absurd (let z : ◌≡◌ {A = ℕ} 0 1 = cc in omega arith);
    failed = λ _. (refl, λ low y A. subst T (ap (is_codeword E m w c) (sym (C.only low y A)) ∙ e) A.codeword.zero);
    group = group-named;
  }

-- a group that has lost c places or more can always be filled, so the candidate satisfies it
pub full-satisfied : {E : Edition} (S : Sound E) (m w c : ℕ) → GoodIn E.limits m w c → (marks word x : List ℕ) → Symbols E (m * w) word → length marks
    ≡ m * w
    → IsCandidateIn E m w c marks word x → FullSatisfiedIn E m w c marks x
full-satisfied {E} S m w c good marks word x s size C g l many =
    C.satisfied g l _
    (fillable E S w c (omega (arith, good.wide)) (let h = good.narrow in let k = S.width_narrow in omega arith) (stretch w g word) (stretch w g marks)
    (record { size = stretch-length w g word (fits word s.size); each = stretch-below w g word (2 ^ E.bits) s.each })
    (stretch-length w g marks (fits marks size)) (subst (λ n. c ≤ n) (sym (stretch-count w g marks)) many))
  where
    fits : (xs : List ℕ) → length xs ≡ m * w → suc g * w ≤ length xs
    fits xs e = subst (λ n. suc g * w ≤ n) (sym e) (mul-le-mul_right w l)

pub accepted : {L : Limits} (m w c : ℕ) (word marks : List ℕ) (r : ℕ) → r ≡ recover_refusal_in L m w c word marks → r ≡ 0 → AcceptedIn L m w c word marks
unfolding recover_refusal_in
accepted {L} m w c word marks r e z =
    let p = or_else-zero (word_refusal_in L m w c (length word)) (marks_refusal_in L m w c marks) (sym e ∙ z) in
    let g = good-of-word m w c (length word) p.0 in
    record { refusal = sym e ∙ z; good = g.0; word_size = g.1; marks-size = (good-of-marks m w c marks p.1).size }

-- what the service answers, by how the call goes
pub service-refused : (E : Edition) (m w c : ℕ) (word marks : List ℕ) (r : ℕ) → r ≡ recover_refusal_in E.limits m w c word marks → (r ≡ 0 → ⊥)
    → recover_in E m w c word marks ≡ refused r word marks
unfolding recover_in
service-refused E m w c word marks r e n =
    ap (λ q. unless_before q (recovered E m w c word marks) word marks) (sym e) ∙ unless-before r (recovered E m w c word marks) word marks n

module _ {E : Edition} (S : Sound E) (m w c : ℕ) (word marks : List ℕ) (A : AcceptedIn E.limits m w c word marks)
    (small : (p : ℕ) → get_or word p 0 < 2 ^ E.bits) where
  symbols : Symbols E (m * w) word
  symbols = record { size = A.word_size; each = small }

  service : recover_in E m w c word marks ≡ recovered E m w c word marks
  unfolding recover_in
  service = ap (λ r. unless_before r (recovered E m w c word marks) word marks) A.refusal

  few : m ≤ S.r
  few = let h = A.good.few in let k = S.groups-few in omega arith

  narrow : w ≤ E.small
  narrow = let h = A.good.narrow in let k = S.width_narrow in omega arith

  wide : 0 < w
  wide = let g = A.good in omega arith

  pub service-eight : 2 < excess m w c marks → recover_in E m w c word marks ≡ refused 8 word marks
  service-eight h = service ∙ recovered-eight E S m w c few wide narrow word marks symbols h

  pub service-nine : excess m w c marks ≤ 2 → ((y : List ℕ) → Agrees E m w c marks word y → ⊥) → recover_in E m w c word marks
      ≡ contradictory (contradicting_group E m w c word marks) word marks
  service-nine h never = service ∙ recovered-nine E S m w c few wide narrow word marks symbols h never

  pub service-done : (x : List ℕ) → excess m w c marks ≤ 2 → Agrees E m w c marks word x → recover_in E m w c word marks ≡ done_with x marks
  service-done x h B = service ∙ recovered-done E S m w c few wide narrow word marks symbols x h B

  -- "no step after the test of the excess can answer 8"
  pub eight-above : (recover_in E m w c word marks).number ≡ 8 → 2 < excess m w c marks
  eight-above e = elim (dec_le (excess m w c marks) 2) [
    | yes h ↦
        (let t = eight-large (2 ^ E.bits) (is_codeword E m w c) (ltb 2 (excess m w c marks)) (contradicting_group E m w c word marks) word marks
        (sym (ap (λ o. o.number) service) ∙ e) in
        absurd (subst T (sym t ∙ le-ltb 2 (excess m w c marks) h) tt))
    | no h ↦ omega arith
  ]

  -- 8 exactly if the excess is above 2, and then as Judge says
  pub eight-exactly : ((recover_in E m w c word marks).number ≡ 8) ↔ (2 < excess m w c marks)
  eight-exactly = (eight-above, λ h. ap (λ o. o.number) (service-eight h))
