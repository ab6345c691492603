-- Laws: Recovery of a whole word, for a good shape, n symbols and n marks: what is answered, and that it is demand 2.
use Rattle.std.specs.Prelude.{◌≡◌, Bool, false, List, ℕ, ◌*◌, ◌<◌, ◌≤◌, ◌^◌, ltb, length, replicate}
use Rattle.std.proofs.Common.{sym, ap, ◌∙◌, subst, arith, lt-ltb, le-ltb, ltb-true, ltb-false}
use Rattle.std.proofs.Math.Decide.{dec_le}
use Rattle.code.specs.Edition.{Edition, Sound}
use Rattle.code.specs.Word.{is_codeword, Symbols}
use Rattle.code.specs.Marks.{excess}
use Rattle.code.specs.Determined.{Undetermined}
use Rattle.code.specs.DeterminedLaws.{unique, above-two, undetermined}
use Rattle.code.specs.Filling.{Passing}
use Rattle.code.specs.FillingLaws.{filling-symbols}
use Rattle.code.specs.Contradiction.{contradicting_group}
use Rattle.code.specs.Outcome.{refused, contradictory, done_with, SameEnd}
use Rattle.code.specs.OutcomeLaws.{same_outcome, same-refusal, same-contradiction}
use Rattle.code.specs.Outcome as Outcome
use Rattle.code.specs.OutcomeLaws as OutcomeLaws
use Rattle.code.specs.Recovery.{recovered, Agrees, Single, SameStart}

module _ (E : Edition) (m w c : ℕ) where
  -- the fillings that pass the test are the codewords that agree
  pub agrees-passing : (marks word y : List ℕ) → length word ≡ m * w → Agrees E m w c marks word y → Passing (2 ^ E.bits) (is_codeword E m w c) marks word y
  agrees-passing marks word y n A = record {
    fills = record {
      size = A.codeword.symbols.size ∙ sym n;
      present = λ p l e. A.agree p (subst (λ k. p < k) n l) e;
      each = λ p l e. A.codeword.symbols.each p;
    };
    passes = A.codeword.zero;
  }

  pub passing-agrees : (marks word y : List ℕ) → Symbols E (m * w) word → Passing (2 ^ E.bits) (is_codeword E m w c) marks word y → Agrees E m w c marks word y
  passing-agrees marks word y s P = record {
    codeword = record { symbols = filling-symbols E (m * w) marks word y s P.fills; zero = P.passes };
    agree = λ p l e. P.fills.present p (subst (λ k. p < k) (sym s.size) l) e;
  }

module _ (E : Edition) (S : Sound E) (m w c : ℕ) (few : m ≤ S.r) (wide : 0 < w) (narrow : w ≤ E.small) where
  module _ (word marks : List ℕ) (s : Symbols E (m * w) word) where
    large : Bool
    large = ltb 2 (excess m w c marks)

    -- the codeword that agrees is one
    pub only_one : excess m w c marks ≤ 2 → (x y : List ℕ) → Agrees E m w c marks word x → Agrees E m w c marks word y → x ≡ y
    only_one h x y A B = unique E S m w c few wide narrow marks x y A.codeword B.codeword (λ p l e. A.agree p l e ∙ sym (B.agree p l e)) h

    only-filling : large ≡ false → (y z : List ℕ) → Passing (2 ^ E.bits) (is_codeword E m w c) marks word y
        → Passing (2 ^ E.bits) (is_codeword E m w c) marks word z → y ≡ z
    unfolding large
    only-filling e y z P Q =
        only_one (ltb-false 2 (excess m w c marks) e) y z (passing-agrees E m w c marks word y s P) (passing-agrees E m w c marks word z s Q)

    -- ---- how each answer is reached
    pub recovered-eight : 2 < excess m w c marks → recovered E m w c word marks ≡ refused 8 word marks
    recovered-eight h = OutcomeLaws.answered-eight (2 ^ E.bits) (is_codeword E m w c) (ltb 2 (excess m w c marks)) (contradicting_group E m w c word marks) word
        marks (lt-ltb 2 (excess m w c marks) h)

    pub recovered-nine : excess m w c marks ≤ 2 → ((y : List ℕ) → Agrees E m w c marks word y → ⊥) → recovered E m w c word marks
        ≡ contradictory (contradicting_group E m w c word marks) word marks
    recovered-nine h never =
        OutcomeLaws.answered-nine (2 ^ E.bits) (is_codeword E m w c) (ltb 2 (excess m w c marks)) (contradicting_group E m w c word marks) word marks
        (le-ltb 2 (excess m w c marks) h)
        (λ y P. never y (passing-agrees E m w c marks word y s P))

    pub recovered-done : (x : List ℕ) → excess m w c marks ≤ 2 → Agrees E m w c marks word x → recovered E m w c word marks ≡ done_with x marks
    unfolding large
    recovered-done x h A =
        OutcomeLaws.answered-done (2 ^ E.bits) (is_codeword E m w c) (ltb 2 (excess m w c marks)) (contradicting_group E m w c word marks)
        word marks only-filling
        (le-ltb 2 (excess m w c marks) h) x
        (agrees-passing E m w c marks word x s.size A)

    -- ---- demand 2: "Recovery is refused as undetermined exactly when two different codewords agree at every present place"
    pub eight-undetermined : (recovered E m w c word marks).number ≡ 8 → Undetermined E m w c marks
    eight-undetermined e =
        undetermined E S m w c few wide narrow marks
        (ltb-true 2 (excess m w c marks) (OutcomeLaws.eight-large (2 ^ E.bits) (is_codeword E m w c) (ltb 2 (excess m w c marks))
        (contradicting_group E m w c word marks) word marks e))

    pub undetermined-eight : Undetermined E m w c marks → (recovered E m w c word marks).number ≡ 8
    undetermined-eight U = ap (λ o. o.number) (recovered-eight (above-two E S m w c few wide narrow marks U))

    -- "else as contradictory exactly when no codeword agrees with the present bytes"
    pub nine-contradictory : (recovered E m w c word marks).number ≡ 9 → (¬ (Undetermined E m w c marks)) × ((y : List ℕ) → Agrees E m w c marks word y → ⊥)
    nine-contradictory e =
        let N = OutcomeLaws.nine-never (2 ^ E.bits) (is_codeword E m w c) (ltb 2 (excess m w c marks)) (contradicting_group E m w c word marks) word marks e in (
          (λ U. let k = above-two E S m w c few wide narrow marks U in let l = ltb-false 2 (excess m w c marks) N.0 in omega arith),
          (λ y A. N.1 y (agrees-passing E m w c marks word y s.size A)),
        )

    low-excess : ¬ (Undetermined E m w c marks) → excess m w c marks ≤ 2
    low-excess n = elim (dec_le (excess m w c marks) 2) [
      | yes h ↦ h
      | no h ↦ absurd (n (undetermined E S m w c few wide narrow marks (omega arith)))
    ]

    pub contradictory-nine : ¬ (Undetermined E m w c marks) → ((y : List ℕ) → Agrees E m w c marks word y → ⊥) → (recovered E m w c word marks).number ≡ 9
    contradictory-nine n never = ap (λ o. o.number) (recovered-nine (low-excess n) never)

    -- done exactly where the present places determine a codeword and one agrees
    pub done-determined : (recovered E m w c word marks).number ≡ 0 → ¬ (Undetermined E m w c marks)
    done-determined e U = let z = undetermined-eight U in omega arith

    pub determined-done : ¬ (Undetermined E m w c marks) → (y : List ℕ) → Agrees E m w c marks word y → (recovered E m w c word marks).number ≡ 0
    determined-done n y A = ap (λ o. o.number) (recovered-done y (low-excess n) A)

    -- "else the single agreeing codeword stands in the word", and all marks are clear
    pub done-single : (recovered E m w c word marks).number ≡ 0 → Single E m w c word marks
    unfolding large
    done-single e =
        let D = OutcomeLaws.done-single (2 ^ E.bits) (is_codeword E m w c) (ltb 2 (excess m w c marks)) (contradicting_group E m w c word marks) word marks
        only-filling e in
        record {
          agrees = passing-agrees E m w c marks word _ s D.passes;
          only = λ y A. D.only y (agrees-passing E m w c marks word y s.size A);
          clear = D.clear;
        }

  -- ---- the answer hangs on the excess, the contradicting group and the codewords that agree, and on nothing else
  pub same_end : (word₁ marks₁ word₂ marks₂ : List ℕ) → Symbols E (m * w) word₁ → Symbols E (m * w) word₂ → length marks₁ ≡ length marks₂
      → SameStart E m w c word₁ marks₁ word₂ marks₂ → SameEnd (recovered E m w c word₁ marks₁) (recovered E m w c word₂ marks₂)
  same_end word₁ marks₁ word₂ marks₂ s₁ s₂ l Q =
      elim (OutcomeLaws.cases (2 ^ E.bits) (is_codeword E m w c) (ltb 2 (excess m w c marks₁)) (contradicting_group E m w c word₁ marks₁) word₁ marks₁) [
        | Outcome.eight h e ↦
            same-refusal 8 (λ z. omega arith) e (recovered-eight word₂ marks₂ s₂ (subst (λ n. 2 < n) Q.excess-same (ltb-true 2 (excess m w c marks₁) h)))
        | Outcome.nine h never e ↦
            same-contradiction Q.group-same e
            (recovered-nine word₂ marks₂ s₂ (subst (λ n. n ≤ 2) Q.excess-same (ltb-false 2 (excess m w c marks₁) h))
            (λ y A. never y (agrees-passing E m w c marks₁ word₁ y s₁.size (Q.back y A))))
        | Outcome.done h x P e ↦
            same_outcome
            (e ∙ ap (λ n. record { number = 0; group = 0; word = x; marks = replicate n 0 }) l
            ∙ sym (recovered-done word₂ marks₂ s₂ x (subst (λ n. n ≤ 2) Q.excess-same (ltb-false 2 (excess m w c marks₁) h))
            (Q.forth x (passing-agrees E m w c marks₁ word₁ x s₁ P))))
      ]
