-- Laws: The refusals of the services are numbers of refusals without a group.
use Rattle.std.specs.Prelude.{refl, Bool, true, false, not, List, ℕ, zero, suc, ltb, length}
use Rattle.std.proofs.Common.{arith}
use Rattle.code.specs.Refusals.{refuse}
use Rattle.code.specs.Limits.{Limits, sale_refusal_in, word_refusal_in}
use Rattle.code.specs.Marks.{excess}
use Rattle.code.specs.Edition.{Edition}
use Rattle.code.specs.Filling.{Found, found, none, search}
use Rattle.code.specs.Outcome.{Outcome, finished, answered}
use Rattle.answers.specs.Answers.{Listed, Plain}
use Rattle.answers.specs.AnswersLaws.{plain-refuse, plain-else}
use Rattle.answers.specs.PlainLaws.{sale-plain, word-plain, buffer-plain}
use Rattle.code_services.specs.Marks.{are_marks, marks_refusal_in}
use Rattle.code_services.specs.Judge.{judged_number_in}
use Rattle.code_services.specs.Places.{check_marks_refusal_in}
use Rattle.code_services.specs.Encode.{encode_refusal_in}
use Rattle.code_services.specs.Recover.{unless_before, recover_refusal_in, recover_in}
use Rattle.code_services.specs.Repair.{repair_refusal_in}

module _ (L : Limits) (m w c : ℕ) where
  pub marks-plain : (marks : List ℕ) → Plain (marks_refusal_in L m w c marks)
  unfolding marks_refusal_in
  marks-plain marks =
      plain-else (word_refusal_in L m w c (length marks)) _ (word-plain L m w c (length marks))
      (plain-refuse 6 (not (are_marks marks)) (refl, λ z. omega arith))

  pub judged-plain : (marks : List ℕ) → Plain (judged_number_in L m w c marks)
  unfolding judged_number_in
  judged-plain marks =
      plain-else (marks_refusal_in L m w c marks) _ (marks-plain marks) (plain-refuse 8 (ltb 2 (excess m w c marks)) (refl, λ z. omega arith))

  pub check-marks-plain : (n : ℕ) → Plain (check_marks_refusal_in L m w c n)
  unfolding check_marks_refusal_in
  check-marks-plain n = plain-else (sale_refusal_in L m w c) _ (sale-plain L m w c) (word-plain L m w c n)

  pub encode-plain : (n k : ℕ) → Plain (encode_refusal_in L m w c n k)
  unfolding encode_refusal_in
  encode-plain n k = plain-else (sale_refusal_in L m w c) _ (sale-plain L m w c) (buffer-plain L m w c n k)

  pub recover-plain : (word marks : List ℕ) → Plain (recover_refusal_in L m w c word marks)
  unfolding recover_refusal_in
  recover-plain word marks = plain-else (word_refusal_in L m w c (length word)) _ (word-plain L m w c (length word)) (marks-plain marks)

  pub repair-plain : (g : ℕ) (word marks : List ℕ) → Plain (repair_refusal_in L m w c g word marks)
  unfolding repair_refusal_in
  repair-plain g word marks =
      plain-else (recover_refusal_in L m w c word marks) _ (recover-plain word marks) (plain-refuse 7 (not (ltb g m)) (refl, λ z. omega arith))

-- a recovery ends with 0 or the number of a refusal
answered-listed : (q : ℕ) (test : List ℕ → Bool) (large : Bool) (group : ℕ) (word marks : List ℕ) → Listed (answered q test large group word marks).number
unfolding answered
answered-listed q test true group word marks = refl
answered-listed q test false group word marks = go (search q test marks word)
  where
    go : (f : Found) → Listed (finished group word marks f).number
    go (found x) = refl
    go none = refl

before-listed : (r : ℕ) (o : Outcome) (word marks : List ℕ) → Listed r → Listed o.number → Listed (unless_before r o word marks).number
before-listed zero o word marks p q = q
before-listed (suc r) o word marks p q = p

pub recover-listed : (E : Edition) (m w c : ℕ) (word marks : List ℕ) → Listed (recover_in E m w c word marks).number
unfolding recover_in
recover-listed E m w c word marks =
    before-listed (recover_refusal_in E.limits m w c word marks) _ word marks (recover-plain E.limits m w c word marks).0
    (answered-listed _ _ _ _ word marks)
