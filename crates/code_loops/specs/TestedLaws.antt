-- Laws: The steps of the test of all equations: the refusal, the lowest broken group, then the two sums across.
use Rattle.std.specs.Prelude.{◌≡◌, refl, Bool, true, false, ◌&&◌, List, ℕ, ◌*◌, eqb, length}
use Rattle.std.proofs.Common.{sym, ap, ap₂, ◌∙◌, eq-eqb, ne_eqb}
use Rattle.code.specs.Edition.{Edition}
use Rattle.code.specs.Limits.{GoodIn, word_refusal_in}
use Rattle.code.specs.LimitsLaws.{word-of-good}
use Rattle.code.specs.Lent.{LentIn}
use Rattle.code.specs.Word.{is_codeword}
use Rattle.code_engine.specs.Tests.{broken_group_in, not_tested}
use Rattle.code_engine.specs.TestsLaws.{broken-other, across-decide}
use Rattle.code_loops.specs.Directions.{PairType, across_in}
use Rattle.code_loops.specs.Tested.{TestGiven}

pub test-refused : (E : Edition) (m w c : ℕ) (word : List ℕ) {k : ℕ} → k ≡ word_refusal_in E.limits m w c (length word) → (k ≡ 0 → ⊥)
    → TestGiven E m w c word not_tested
test-refused E m w c word e n = (λ good size. absurd (n (e ∙ word-of-good m w c (length word) good size)), λ _. refl)

module _ (E : Edition) {m w c g : ℕ} {word : List ℕ} (L : LentIn E.limits m w c word) (e : g ≡ broken_group_in E m w c word) where
  test-is : {v : Bool} → v ≡ is_codeword E m w c word → TestGiven E m w c word (record { codeword = v; group = g })
  test-is q = (λ _ _. ap₂ (λ v g. record { codeword = v; group = g }) q e, λ k. absurd (k L.good L.size))

  pub test-broken : (g ≡ m → ⊥) → TestGiven E m w c word (record { codeword = false; group = g })
  test-broken n = test-is (sym (broken-other E m w c word (λ q. n (e ∙ q))))

  -- no group is broken: the two sums across decide
  module _ {X : Type 0} (P : PairType X) {s : X} (whole : g ≡ m) (given : GoodIn E.limits m w c → length word ≡ m * w → s ≡ across_in P E m w c word) where
    decided : (eqb (P.first s) 0 && eqb (P.second s) 0) ≡ is_codeword E m w c word
    decided =
        let q = given L.good L.size in
        ap₂ (λ a b. (eqb a 0 && eqb b 0)) (ap P.first q ∙ P.first-is _ _) (ap P.second q ∙ P.second_is _ _)
        ∙ sym (across-decide E m w c word (sym e ∙ whole))

    pub test-first : (P.first s ≡ 0 → ⊥) → TestGiven E m w c word (record { codeword = false; group = g })
    test-first n = test-is (rw (ne_eqb (P.first s) 0 n) at decided)

    pub test-second : P.first s ≡ 0 → TestGiven E m w c word (record { codeword = eqb (P.second s) 0; group = g })
    test-second z = test-is (rw (eq-eqb (P.first s) 0 z) at decided)
