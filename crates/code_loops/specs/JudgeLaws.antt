-- Laws: How a call of Judge or Check ends.
use Rattle.std.specs.Prelude.{◌≡◌, refl, Bool, true, false, List, ℕ, Option, Some, None, Result, Ok, Err, ◌*◌, ◌/◌, ◌^◌, ◌≤◌, ◌<◌, ltb, length, get_or}
use Rattle.std.proofs.Math.Path.{sym, ap, ap₂}
use Rattle.std.proofs.Common.{◌∙◌, arith, lt-ltb, le-ltb}
use Rattle.code.specs.Edition.{Edition}
use Rattle.code.specs.Refusals.{refuse}
use Rattle.code.specs.RefusalsLaws.{or_else-first}
use Rattle.code.specs.Limits.{Limits, GoodIn, word_refusal_in}
use Rattle.code.specs.LimitsLaws.{good-of-word}
use Rattle.code.specs.Marks.{excess}
use Rattle.code.proofs.ContradictionLaws.{whole-groups}
use Rattle.answers.specs.declared.Refusal.{Refusal}
use Rattle.answers.specs.declared.Tested.{Tested}
use Rattle.answers.specs.Answers.{refusal_number}
use Rattle.answers.specs.AnswersLaws.{refusal-some, answer-refused}
use Rattle.answers.specs.PlainLaws.{word-plain}
use Rattle.answers.specs.Figures.{judged_at, judged_number, checked_at, checked_number, checked_figures}
use Rattle.code_engine.specs.GroupsLaws.{groups-whole}
use Rattle.code_engine.specs.Tests.{broken_group_in, tested_in}
use Rattle.code_engine.specs.TestsLaws.{broken-most}
use Rattle.code_services.specs.Marks.{marks_refusal_in}
use Rattle.code_services.specs.MarksLaws.{good-of-marks}
use Rattle.code_services.specs.Judge.{judged_number_in, judged_in}
use Rattle.code_services.specs.JudgeLaws.{judged-number, number_of}
use Rattle.code_services.specs.PlainLaws.{judged-plain}
use Rattle.code_services.specs.Check.{checked_in, whole_group_in, check_figures_in}
use Rattle.code_services.specs.CheckLaws.{checked-number, checked-figures, checked_refused}

-- ---- Judge: the number follows from the answer
abbrev pub Judges : Limits → ℕ → ℕ → ℕ → List ℕ → Result Unit Refusal → Type 0
Judges L m w c marks r = (r ≡ judged_in L m w c marks) × (judged_number r ≡ judged_number_in L m w c marks)

module _ (L : Limits) (m w c : ℕ) (marks : List ℕ) where
  judges : (a : Result Unit Refusal) → a ≡ judged_in L m w c marks → Judges L m w c marks a
  judges a e = (e, ap judged_number e ∙ judged-number L m w c marks)

  first : (e : Refusal) → refusal_number e ≡ marks_refusal_in L m w c marks → refusal_number e ≡ judged_number_in L m w c marks
  unfolding judged_number_in
  first e is = is ∙ sym (or_else-first _ _ (λ z. refusal-some e (is ∙ z)))

  pub judge-refused : {e : Refusal} → refusal_number e ≡ marks_refusal_in L m w c marks → Judges L m w c marks (Err e)
  unfolding judged_in
  judge-refused {e} is = judges (Err e) (sym (answer-refused (first e is) (judged-plain L m w c marks)))

  module _ (z : marks_refusal_in L m w c marks ≡ 0) {x : ℕ} (counted : x ≡ excess (length marks / w) w c marks) where
    answered : judged_at (refuse 8 (ltb 2 x)) ≡ judged_in L m w c marks
    unfolding judged_in
    answered =
        let G = good-of-marks m w c marks z in
        let pos : 0 < w = (let h = G.good.wide in omega arith) in
        ap judged_at (ap (λ n. refuse 8 (ltb 2 n)) (counted ∙ ap (λ n. excess n w c marks) (groups-whole m w pos G.size))
        ∙ sym (number_of L m w c marks z))

    pub judge-eight : 2 < x → Judges L m w c marks (Err Refusal.Undetermined)
    judge-eight h = judges (Err Refusal.Undetermined) (ap (λ b. judged_at (refuse 8 b)) (sym (lt-ltb 2 x h)) ∙ answered)

    pub judge-determined : x ≤ 2 → Judges L m w c marks (Ok tt)
    judge-determined h = judges (Ok tt) (ap (λ b. judged_at (refuse 8 b)) (sym (le-ltb 2 x h)) ∙ answered)

-- ---- Check: number and figures follow from the answer
abbrev pub Checks : Edition → ℕ → ℕ → ℕ → List ℕ → Result (Option ℕ) Refusal → Type 0
Checks E m w c word r = (r ≡ checked_in E m w c word) × ((checked_number r ≡ word_refusal_in E.limits m w c (length word))
    × (checked_figures r ≡ check_figures_in E m w c word))

module _ (E : Edition) (m w c : ℕ) (word : List ℕ) where
  checks : (a : Result (Option ℕ) Refusal) → a ≡ checked_in E m w c word → Checks E m w c word a
  checks a e = (e, (ap checked_number e ∙ checked-number E m w c word, ap checked_figures e ∙ checked-figures E m w c word))

  pub check-refused : {e : Refusal} → refusal_number e ≡ word_refusal_in E.limits m w c (length word) → Checks E m w c word (Err e)
  unfolding checked_in
  check-refused {e} is =
      checks (Err e) (sym (checked_refused _ _ _ is (λ z. refusal-some e (is ∙ z)) (word-plain E.limits m w c (length word))))

  module _ (z : word_refusal_in E.limits m w c (length word) ≡ 0) {t : Tested} (tested : GoodIn E.limits m w c → length word ≡ m * w → t ≡ tested_in E m w c word) where
    found : t ≡ tested_in E m w c word
    found = let G = good-of-word m w c (length word) z in tested G.0 G.1

    -- the group that it names
    pub group-few : t.group ≤ E.limits.groups
    group-few =
        let G = good-of-word {L = E.limits} m w c (length word) z in
        omega (arith, ap (λ (x : Tested). x.group) found, broken-most E m w c word, G.0.few)

    module _ (small : (p : ℕ) → get_or word p 0 < 2 ^ E.bits) where
      -- the lowest broken group is the one that contradicts
      named : broken_group_in E m w c word ≡ whole_group_in E m w c word
      unfolding broken_group_in
      named = whole-groups E m w c word (good-of-word {L = E.limits} m w c (length word) z).1 small

      answer : checked_at 0 t.codeword t.group ≡ checked_in E m w c word
      unfolding checked_in
      answer =
          ap (λ n. checked_at n t.codeword t.group) (sym z)
          ∙ ap₂ (checked_at (word_refusal_in E.limits m w c (length word))) (ap (λ (x : Tested). x.codeword) found)
          (ap (λ (x : Tested). x.group) found ∙ named)

      pub check-yes : t.codeword ≡ true → Checks E m w c word (Ok None)
      check-yes y = checks (Ok None) (ap (λ b. checked_at 0 b t.group) (sym y) ∙ answer)

      pub check-no : t.codeword ≡ false → Checks E m w c word (Ok (Some t.group))
      check-no n = checks (Ok (Some t.group)) (ap (λ b. checked_at 0 b t.group) (sym n) ∙ answer)
