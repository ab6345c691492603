-- What the answer of Judge says.
use Rattle.std.specs.Prelude.{◌≡◌, refl, ◌↔◌, List, ℕ, ◌+◌, ◌*◌, ◌≤◌, ◌<◌, ltb, Err}
use Rattle.std.proofs.Common.{ap, ◌∙◌, arith, lt-ltb, le-ltb}
use Rattle.std.proofs.Math.Decide.{dec_le}
use Rattle.counting.specs.Count.{count_below}
use Rattle.code.specs.Refusals.{refuse}
use Rattle.code.specs.Edition.{Edition, Sound}
use Rattle.code.specs.Marks.{lost, excess}
use Rattle.code.specs.Determined.{Undetermined}
use Rattle.code.specs.DeterminedLaws.{above-two, undetermined}
use Rattle.code.specs.Limits.{Limits, sure_count, GoodIn}
use Rattle.code_services.specs.Marks.{MarkedIn, marks_refusal_in}
use Rattle.code_services.specs.MarksLaws.{good-of-marks, marks-of-good}
use Rattle.answers.specs.declared.Refusal.{Refusal}
use Rattle.answers.specs.Answers.{refusal_number, Plain}
use Rattle.answers.specs.AnswersLaws.{answer-refused}
use Rattle.answers.specs.Figures.{judged_at, judged_number}
use Rattle.code_services.specs.Judge.{judged_number_in, judged_in}
use Rattle.code_services.specs.PlainLaws.{judged-plain}
use Rattle.code_services.specs.Sure.{first_lost}
use Rattle.code_services.specs.SureLaws.{first-length, first-mark, first_count, sure-excess, first-many}
use Rattle.code_services.specs.SureCount.{IsSureIn, FailsIn}

pub judged-refused : {e : Refusal} (r : ℕ) → refusal_number e ≡ r → Plain r → judged_at r ≡ Err e
judged-refused r is p = answer-refused is p

pub judged-number : (L : Limits) (m w c : ℕ) (marks : List ℕ) → judged_number (judged_in L m w c marks) ≡ judged_number_in L m w c marks
unfolding judged_in
judged-number L m w c marks = (judged-plain L m w c marks).0

module _ (L : Limits) (m w c : ℕ) (marks : List ℕ) (accepted : marks_refusal_in L m w c marks ≡ 0) where
  pub number_of : judged_number_in L m w c marks ≡ refuse 8 (ltb 2 (excess m w c marks))
  unfolding judged_number_in
  number_of = rw accepted

  above : 2 < excess m w c marks → judged_number_in L m w c marks ≡ 8
  above h = number_of ∙ ap (refuse 8) (lt-ltb 2 (excess m w c marks) h)

  low : excess m w c marks ≤ 2 → judged_number_in L m w c marks ≡ 0
  low h = number_of ∙ ap (refuse 8) (le-ltb 2 (excess m w c marks) h)

  -- the number is 8 or 0, by the excess
  pub eight-excess : (judged_number_in L m w c marks ≡ 8) ↔ (2 < excess m w c marks)
  eight-excess = (to, above)
    where
      to : judged_number_in L m w c marks ≡ 8 → 2 < excess m w c marks
      to e = elim (dec_le (excess m w c marks) 2) [
        | yes h ↦ (let z = low h in omega arith)
        | no h ↦ omega arith
      ]

  pub zero-excess : (judged_number_in L m w c marks ≡ 0) ↔ (excess m w c marks ≤ 2)
  zero-excess = (to, low)
    where
      to : judged_number_in L m w c marks ≡ 0 → excess m w c marks ≤ 2
      to e = elim (dec_le (excess m w c marks) 2) [
        | yes h ↦ h
        | no h ↦ (let z = above (omega arith) in omega arith)
      ]

  -- a loss of that many places or fewer is judged 0
  pub sure : count_below (m * w) (lost marks) ≤ sure_count w c → judged_number_in L m w c marks ≡ 0
  sure h = low (sure-excess m w c marks h)

-- in a sound edition
module _ {E : Edition} (S : Sound E) (m w c : ℕ) (marks : List ℕ) (accepted : marks_refusal_in E.limits m w c marks ≡ 0) where
  -- "0 if no two different codewords agree at all present places, else 8"
  pub eight-undetermined : (judged_number_in E.limits m w c marks ≡ 8) ↔ Undetermined E m w c marks
  eight-undetermined =
      let g = (good-of-marks m w c marks accepted).good in
      let few : m ≤ S.r = omega (arith, S.groups-few, g.few) in
      let wide : 0 < w = omega (arith, g.wide) in
      let narrow : w ≤ E.small = omega (arith, S.width_narrow, g.narrow) in (
        λ e. undetermined E S m w c few wide narrow marks ((eight-excess E.limits m w c marks accepted).0 e),
        λ U. above E.limits m w c marks accepted (above-two E S m w c few wide narrow marks U),
      )

  pub zero-determined : (judged_number_in E.limits m w c marks ≡ 0) ↔ ¬ Undetermined E m w c marks
  zero-determined = (λ e U. let z = eight-undetermined.1 U in omega arith, λ h. low E.limits m w c marks accepted (to h))
    where
      to : ¬ Undetermined E m w c marks → excess m w c marks ≤ 2
      to h = elim (dec_le (excess m w c marks) 2) [
        | yes k ↦ k
        | no k ↦ absurd (h (eight-undetermined.0 (above E.limits m w c marks accepted (omega arith))))
      ]

module _ {L : Limits} {m w c : ℕ} (g : GoodIn L m w c) where
  -- one loss more can fail
  pub sure-fails : FailsIn L m w c (sure_count w c + 1)
  sure-fails =
      let r = sure_count w c + 1 in
      let x = first_lost (m * w) r in
      let k = first-many g in
      let a : marks_refusal_in L m w c x ≡ 0 = marks-of-good m w c x (record { good = g; size = first-length (m * w) r; each = first-mark (m * w) r }) in
      record {
        marks = x;
        accepted = a;
        count = first_count (m * w) r (m * w) k.0 k.0;
        eight = above L m w c x a k.1;
      }

  -- "Define the sure count as the largest number such that every pattern of that many losses or fewer is judged 0."
  pub largest : IsSureIn L m w c (sure_count w c) × ((s : ℕ) → IsSureIn L m w c s → s ≤ sure_count w c)
  largest = (sure L m w c, most)
    where
      most : (s : ℕ) → IsSureIn L m w c s → s ≤ sure_count w c
      most s h = elim (dec_le s (sure_count w c)) [
        | yes k ↦ k
        | no k ↦ (let f = sure-fails in let z = h f.marks f.accepted (let e = f.count in omega arith) in let e = f.eight in absurd (omega arith))
      ]
