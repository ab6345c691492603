-- Laws: What a block rebuild gives to C.
use Rattle.std.specs.Prelude.{◌≡◌, refl, Bool, true, false, cond, List, ℕ, zero, suc, eqb, ltb, length, Err}
use Rattle.std.proofs.Common.{sym, ap, eqb-true}
use Rattle.answers.specs.Answers.{refusal_at, Listed}
use Rattle.block_rebuild.specs.declared.Failure.{Failure}
use Rattle.block_rebuild.proofs.RebuildLaws.{rebuild-plain}
use Rattle.block_rebuild.specs.Rebuild.{rebuild_refusal, contradictory_rebuild, done_rebuild, rebuild_unless}
use Rattle.block_rebuild.specs.Rebuild.{contradicting_word, rebuilt_blocks, words_outcome, rebuild_of, outcome_rebuilt}
use Rattle.c_blocks.specs.RebuildAnswer.{outcome_answer, rebuilt_answer}

-- the answer says all that the outcome does
pub answer-is : (m w c size : ℕ) (blocks marks : List ℕ)
    → rebuilt_answer (outcome_rebuilt (rebuild_of m w c size blocks marks)) ≡ outcome_answer (rebuild_of m w c size blocks marks)
unfolding rebuild_of
answer-is m w c size blocks marks =
    go (rebuild_refusal m w c size (length blocks) marks) (rebuild-plain m w c size (length blocks) marks).0
  where
    words : (b : Bool) (x g : ℕ) (after : List ℕ)
        → rebuilt_answer (outcome_rebuilt (cond b (contradictory_rebuild x g blocks marks) (done_rebuild after marks)))
        ≡ outcome_answer (cond b (contradictory_rebuild x g blocks marks) (done_rebuild after marks))
    words true x g after = refl
    words false x g after = refl

    refused : (r : ℕ) → Listed (suc r) → (b : Bool) → eqb (suc r) 9 ≡ b
        → rebuilt_answer (cond b (Err (Failure.Contradictory 0 0)) (Err (Failure.Refused (refusal_at (suc r) 0))))
        ≡ record { word = 0; number = suc r; group = 0 }
    refused r l true e = ap (λ (n : ℕ). record { word = 0; number = n; group = 0 }) (sym (eqb-true (suc r) 9 e))
    refused r l false e = ap (λ (n : ℕ). record { word = 0; number = n; group = 0 }) l

    go : (r : ℕ) → Listed r → rebuilt_answer (outcome_rebuilt (rebuild_unless r (words_outcome m w c size blocks marks) blocks marks))
        ≡ outcome_answer (rebuild_unless r (words_outcome m w c size blocks marks) blocks marks)
    go zero l = words (ltb (contradicting_word m w c size blocks marks) size) _ _ (rebuilt_blocks m w c size blocks marks)
    go (suc r) l = refused r l (eqb (suc r) 9) refl
