-- Laws: A test by the groups in turn and then by the two sums across.
use Rattle.std.specs.Prelude.{◌≡◌, Bool, true, false, ◌&&◌, List, ℕ, ◌<◌, ◌≤◌, T, eqb, length, Result}
use Rattle.std.proofs.Common.{sym, ap, ap₂, ◌∙◌, subst, arith}
use Rattle.std.proofs.Math.Decide.{dec_lt}
use Rattle.std.specs.Float.Ieee.Bits.{is_true}
use Rattle.std.specs.Result.{is_err}
use Rattle.answers.specs.declared.Refusal.{Refusal}
use Rattle.answers.specs.declared.Tested.{Tested}
use Rattle.answers.specs.Answers.{refused_number}
use Rattle.answers.specs.AnswersLaws.{number-ok}
use Rattle.code.specs.Limits.{Limits, word_refusal_in}
use Rattle.code.specs.Edition.{Edition}
use Rattle.code.specs.Lent.{LentIn}
use Rattle.code.specs.LentLaws.{lent, part-narrow, part_length, stretch-lent}
use Rattle.code.specs.Marks.{lost_in}
use Rattle.code.specs.Stretch.{stretch}
use Rattle.code.specs.StretchLaws.{stretch-count}
use Rattle.code.specs.Word.{is_local, first_across, second_across, is_codeword}
use Rattle.code_engine.specs.PartsLaws.{part-local}
use Rattle.code_engine.specs.Tests.{broken_group_in, tested_in}
use Rattle.code_engine.specs.TestsLaws.{broken-is, broken-none, broken-other, across-decide}
use Rattle.code_services.specs.Attempt.{FullSatisfiedIn}
use Rattle.code_loops.specs.Broken.{PartTested, FilledTested}

-- past the refusal of a word it has the length of a good shape
pub lent-ok : {X : Type 0} {B : Limits} (m w c : ℕ) (word : List ℕ) (r : Result X Refusal) {b : Bool} → refused_number r ≡ word_refusal_in B m w c (length word)
    → b ≡ is_err r → b ≡ false → LentIn B m w c word
lent-ok m w c word r e i f = lent m w c word (sym e ∙ number-ok r (sym i ∙ f))

-- the test of a group's stretch is that of its own equations
pub part-tested : (E : Edition) {m w c : ℕ} {word : List ℕ} {b : Bool} → LentIn E.limits m w c word → (g : ℕ) → g < m → PartTested E c (stretch w g word) b
    → b ≡ is_local E w c word g
part-tested E {m} {w} {c} {word} L g l given =
    let is = sym (stretch-lent w g word) in
    given (part-narrow L g l is) L.good.few-checks ∙ part-local E L g l is

-- and of a word in which the groups with c or more lost places are satisfied
pub filled-tested : (E : Edition) {m w c : ℕ} {marks word : List ℕ} {b : Bool} → LentIn E.limits m w c marks → LentIn E.limits m w c word
    → FullSatisfiedIn E m w c marks word → (g : ℕ) → g < m → FilledTested E c (stretch w g marks) (stretch w g word) b → b ≡ is_local E w c word g
filled-tested E {m} {w} {c} {marks} {word} M W full g l given =
    let lost : lost_in (length (stretch w g marks)) (stretch w g marks) 0 ≡ lost_in w marks g =
    ap (λ n. lost_in n (stretch w g marks) 0) (part_length M g l (sym (stretch-lent w g marks))) ∙ stretch-count w g marks in
    elim (dec_lt (lost_in w marks g) c) [
      | yes h ↦ part-tested E W g l (given.0 (subst (λ n. n < c) (sym lost) h))
      | no h ↦ given.1 (subst (λ n. c ≤ n) (sym lost) (omega arith)) ∙ sym (is_true (is_local E w c word g) (full g l (omega arith)))
    ]

-- r comes of the tests of groups and of the sums across
module _ (E : Edition) (m w c : ℕ) (word : List ℕ) {r : Tested} (bound : r.group ≤ m)
    (sound : (g : ℕ) → g < r.group → true ≡ is_local E w c word g)
    (broken : r.group < m → (false ≡ is_local E w c word r.group) × (r.codeword ≡ false))
    (whole : r.group ≡ m → r.codeword ≡ (eqb (first_across E m w c word) 0 && eqb (second_across E m w c word) 0)) where
  before : (k : ℕ) → k < r.group → T (is_local E w c word k)
  before k l = subst T (sound k l) tt

  group-is : r.group ≡ broken_group_in E m w c word
  group-is = elim (dec_lt r.group m) [
    | yes h ↦ broken-is E m w c word r.group h before (sym (broken h).0)
    | no h ↦ broken-none E m w c word r.group bound (omega arith) before
  ]

  codeword-is : r.codeword ≡ is_codeword E m w c word
  codeword-is = elim (dec_lt r.group m) [
    | yes h ↦ (broken h).1 ∙ sym (broken-other E m w c word (λ q. (let e = group-is ∙ q in omega arith)))
    | no h ↦ (let e : r.group ≡ m = omega arith in whole e ∙ sym (across-decide E m w c word (sym group-is ∙ e)))
  ]

  pub tested-by : r ≡ tested_in E m w c word
  tested-by = ap₂ (λ v g. record { codeword = v; group = g }) codeword-is group-is
