-- Laws: A word of m groups of w places, and when it is a codeword. The place j of group g is the place g·w + j of the word.
use Rattle.std.specs.Prelude.{◌≡◌, List, ℕ, ◌<◌}
use Rattle.std.proofs.Math.Dec.{T, eqb, eqb→eq}
use Rattle.counting.specs.Test.{all_below}
use Rattle.counting.specs.TestLaws.{and_l, and_r, and_intro, all-at, all-intro}
use Rattle.code.specs.Edition.{Edition}
use Rattle.code.specs.Word.{local_sum, first_across, second_across, is_local, is_codeword, Equations}

module _ (E : Edition) where
  -- ---- laws
  pub local-zero : (w v : ℕ) (word : List ℕ) (g : ℕ) → T (is_local E w v word g) → (e : ℕ) → e < v → local_sum E w word g e ≡ 0
  unfolding is_local
  local-zero w v word g t e h = eqb→eq (local_sum E w word g e) 0 (all-at v (λ e. eqb (local_sum E w word g e) 0) t e h)

  pub zero-local : (w v : ℕ) (word : List ℕ) (g : ℕ) → ((e : ℕ) → e < v → local_sum E w word g e ≡ 0) → T (is_local E w v word g)
  unfolding is_local
  zero-local w v word g z = all-intro v (λ e. eqb (local_sum E w word g e) 0) (λ e h. zero-eqb (z e h))
    where
      zero-eqb : {a : ℕ} → a ≡ 0 → T (eqb a 0)
      zero-eqb {a} e = rw e tt

  module _ (m w c : ℕ) (word : List ℕ) where
    pub equations : T (is_codeword E m w c word) → Equations E m w c word
    unfolding is_codeword
    equations t =
        let across = and_r (all_below m (is_local E w c word)) _ t in
        record {
          locals = λ g l. local-zero w c word g (all-at m (is_local E w c word) (and_l (all_below m (is_local E w c word)) _ t) g l);
          first = eqb→eq (first_across E m w c word) 0 (and_l (eqb (first_across E m w c word) 0) _ across);
          second = eqb→eq (second_across E m w c word) 0 (and_r (eqb (first_across E m w c word) 0) _ across);
        }

    pub is-codeword : Equations E m w c word → T (is_codeword E m w c word)
    unfolding is_codeword
    is-codeword Q =
        and_intro (all_below m (is_local E w c word)) _ (all-intro m (is_local E w c word) (λ g l. zero-local w c word g (Q.locals g l)))
        (and_intro (eqb (first_across E m w c word) 0) _ (rw Q.first tt) (rw Q.second tt))
