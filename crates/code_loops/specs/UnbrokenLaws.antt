-- Laws: The lowest broken group of a word in which the groups with c or more lost places are satisfied, and the test of such a word.
use Rattle.std.specs.Prelude.{◌≡◌, refl, Bool, true, false, ◌&&◌, List, ℕ, ◌+◌, ◌-◌, ◌*◌, ◌≤◌, ◌<◌, T, eqb, length, take, drop}
use Rattle.std.proofs.Common.{sym, ap, ap₂, ◌∙◌, subst, arith, below_none, below_more, eq-eqb, ne_eqb}
use Rattle.std.proofs.Math.Decide.{dec_lt}
use Rattle.std.specs.Float.Ieee.Bits.{is_true}
use Rattle.code.specs.Edition.{Edition}
use Rattle.code.specs.Limits.{GoodIn}
use Rattle.code.specs.Lent.{LentIn}
use Rattle.code.specs.LentLaws.{end_fits, part-stretch, part_length, part-narrow}
use Rattle.code.specs.Marks.{lost_in}
use Rattle.code.specs.StretchLaws.{stretch-count}
use Rattle.code.specs.Word.{is_local, first_across, second_across, is_codeword}
use Rattle.answers.specs.declared.Tested.{Tested}
use Rattle.code_engine.specs.PartsLaws.{part-local}
use Rattle.code_engine.specs.Tests.{broken_group_in, tested_in}
use Rattle.code_engine.specs.TestsLaws.{broken-is, broken-none, broken-other, across-decide}
use Rattle.code_services.specs.Attempt.{FullSatisfiedIn}
use Rattle.code_loops.specs.Unbroken.{Unbroken}

pub unbroken-starts : (E : Edition) {m w c : ℕ} {marks word : List ℕ} → GoodIn E.limits m w c → length marks ≡ m * w → length word ≡ m * w
    → FullSatisfiedIn E m w c marks word → Unbroken E m w c marks word 0
unbroken-starts E good marks-size word_size full = record {
  marks-lent = record { good = good; size = marks-size };
  word-lent = record { good = good; size = word_size };
  full = full;
  passed = omega arith;
  sound = below_none _;
}

module _ {E : Edition} {m w c : ℕ} {marks word : List ℕ} {g : ℕ} (U : Unbroken E m w c marks word g) where
  pub unbroken-ends : m ≤ g → g ≡ broken_group_in E m w c word
  unbroken-ends h = broken-none E m w c word g U.passed h U.sound

  module _ (l : g < m) where
    -- the stretches of group g
    pub within : (g * w + w ≤ length marks) × (g * w + w ≤ length word)
    within = (end_fits U.marks-lent g l, end_fits U.word-lent g l)

    abbrev lent_of : List ℕ → List ℕ
    lent_of xs = take (g * w + w - g * w) (drop (g * w) xs)

    -- one test of group g, which passes over what its filling has made zero
    module _ {b : Bool}
        (few : lost_in (length (lent_of marks)) (lent_of marks) 0 < c → length (lent_of word) ≤ E.limits.width → c ≤ E.limits.checks
        → b ≡ is_local E (length (lent_of word)) c (lent_of word) 0)
        (many : c ≤ lost_in (length (lent_of marks)) (lent_of marks) 0 → b ≡ true) where
      lost : lost_in (length (lent_of marks)) (lent_of marks) 0 ≡ lost_in w marks g
      lost = ap₂ (λ n x. lost_in n x 0) (part_length U.marks-lent g l refl) (part-stretch U.marks-lent g l refl) ∙ stretch-count w g marks

      -- what was tested is the group's own equations
      tested : b ≡ is_local E w c word g
      tested = elim (dec_lt (lost_in w marks g) c) [
        | yes h ↦
            few (subst (λ n. n < c) (sym lost) h) (part-narrow U.word-lent g l refl) U.word-lent.good.few-checks
            ∙ part-local E U.word-lent g l refl
        | no h ↦
            many (subst (λ n. c ≤ n) (sym lost) (omega arith)) ∙ sym (is_true (is_local E w c word g) (U.full g l (omega arith)))
      ]

      pub breaks : b ≡ false → g ≡ broken_group_in E m w c word
      breaks f = broken-is E m w c word g l U.sound (sym tested ∙ f)

      pub unbroken-on : b ≡ true → Unbroken E m w c marks word (g + 1)
      unbroken-on t = record {
        marks-lent = U.marks-lent;
        word-lent = U.word-lent;
        full = U.full;
        passed = omega arith;
        sound = below_more (λ k. T (is_local E w c word k)) g U.sound (subst T (sym t ∙ tested) tt);
      }

-- ---- a test by its lowest broken group g and then by the two sums across
module _ (E : Edition) (m w c : ℕ) (word : List ℕ) {g : ℕ} (is : g ≡ broken_group_in E m w c word) where
  by : (b v : Bool) → b ≡ is_codeword E m w c word → v ≡ b → record { codeword = v; group = g } ≡ tested_in E m w c word
  by b v e k = ap₂ (λ x y. record { codeword = x; group = y }) (k ∙ e) is

  pub tested-broken : (g ≡ m → ⊥) → record { codeword = false; group = g } ≡ tested_in E m w c word
  tested-broken n = by (is_codeword E m w c word) false refl (sym (broken-other E m w c word (λ e. n (is ∙ e))))

  module _ (whole : g ≡ m) {f s : ℕ} (first : f ≡ first_across E m w c word) (second : s ≡ second_across E m w c word) where
    decided : (eqb f 0 && eqb s 0) ≡ is_codeword E m w c word
    decided = ap₂ (λ x y. eqb x 0 && eqb y 0) first second ∙ sym (across-decide E m w c word (sym is ∙ whole))

    pub tested-first : (f ≡ 0 → ⊥) → record { codeword = false; group = g } ≡ tested_in E m w c word
    tested-first n = by (eqb f 0 && eqb s 0) false decided (sym (ap (λ b. b && eqb s 0) (ne_eqb f 0 n)))

    pub tested-second : f ≡ 0 → record { codeword = eqb s 0; group = g } ≡ tested_in E m w c word
    tested-second z = by (eqb f 0 && eqb s 0) (eqb s 0) decided (sym (ap (λ b. b && eqb s 0) (eq-eqb f 0 z)))
