-- Recovery of a whole word, for a good shape, n symbols and n marks: what is answered, and that it is demand 2.
use Rattle.std.specs.Prelude.{◌≡◌, List, ℕ, ◌*◌, ◌^◌, ltb, length, replicate}
use Rattle.code.specs.Edition.{Edition}
use Rattle.code.specs.Word.{is_codeword, Codeword}
use Rattle.code.specs.Marks.{excess, Agree}
use Rattle.code.specs.Contradiction.{contradicting_group}
use Rattle.code.specs.Outcome.{Outcome, answered}

-- "Recover: 8 exactly if judge says 8; else 9 exactly if no codeword agrees with the present bytes; else the codeword is written and all marks cleared."
abbrev pub recovered : Edition → ℕ → ℕ → ℕ → List ℕ → List ℕ → Outcome
recovered E m w c word marks =
    answered (2 ^ E.bits) (is_codeword E m w c) (ltb 2 (excess m w c marks)) (contradicting_group E m w c word marks) word marks

module _ (E : Edition) (m w c : ℕ) where
  -- a codeword that agrees with the present symbols of the word
  pub record Agrees (marks word y : List ℕ) : Type 0 where
    pub codeword : Codeword E m w c y
    pub agree : Agree (m * w) marks y word

  -- the single codeword that agrees stands in the word, and all marks are clear
  pub record Single (word marks : List ℕ) : Type 0 where
    pub agrees : Agrees marks word (recovered E m w c word marks).word
    pub only : (y : List ℕ) → Agrees marks word y → y ≡ (recovered E m w c word marks).word
    pub clear : (recovered E m w c word marks).marks ≡ replicate (length marks) 0

  -- the same excess and contradicting group, and the same codewords agree
  pub record SameStart (word₁ marks₁ word₂ marks₂ : List ℕ) : Type 0 where
    pub excess-same : excess m w c marks₁ ≡ excess m w c marks₂
    pub group-same : contradicting_group E m w c word₁ marks₁ ≡ contradicting_group E m w c word₂ marks₂
    pub forth : (y : List ℕ) → Agrees marks₁ word₁ y → Agrees marks₂ word₂ y
    pub back : (y : List ℕ) → Agrees marks₂ word₂ y → Agrees marks₁ word₁ y
