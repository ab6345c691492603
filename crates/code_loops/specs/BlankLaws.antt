-- Laws: The loop that writes a word with z in its lost places.
use Rattle.std.specs.Prelude.{◌≡◌, true, false, List, ℕ, ◌+◌, ◌<◌, ◌≤◌, T, length, get_or, set}
use Rattle.std.proofs.Common.{sym, ap, ◌∙◌, subst, true≢false, arith, eq-eqb, eqb→eq, length-set}
use Rattle.code.specs.Marks.{lost}
use Rattle.code_engine.specs.ListsLaws.{each_set}
use Rattle.code_engine.specs.CandidateSteps.{BlankedOver}
use Rattle.code_loops.specs.Blank.{BlankAt, BlankTurn}

pub blank-first : {A : Type 0} {z : A} {marks : List ℕ} {word base : List A} → length base ≡ length word → BlankTurn z marks word base 0
blank-first e = record { done = omega arith; size = e; blank = λ q l. absurd (omega arith) }

module _ {A : Type 0} {z : A} {marks : List ℕ} {word base : List A} {p : ℕ} (S : BlankTurn z marks word base p) where
  -- b is written at place p
  pub blank_turn : {after : List A} {b : A} → p < length word → after ≡ set base p b → (get_or marks p 0 ≡ 1 → b ≡ z)
      → ((get_or marks p 0 ≡ 1 → ⊥) → b ≡ get_or word p z) → BlankTurn z marks word after (p + 1)
  blank_turn {after} {b} l e zero present = record {
    done = omega arith;
    size = ap length e ∙ length-set base p b ∙ S.size;
    blank = rw e
        (each_set (BlankAt z marks word) base p b z (let s = S.size in omega arith) S.blank record {
          present = λ f. present (λ q. true≢false (sym (eq-eqb (get_or marks p 0) 1 q) ∙ f));
          zero = λ t. zero (eqb→eq (get_or marks p 0) 1 (subst T (sym t) tt));
        });
  }

  pub blank-last : length word ≤ p → BlankedOver z marks word base
  blank-last l = record {
    size = S.size;
    present = λ q h. (S.blank q (omega arith)).present;
    zero = λ q h. (S.blank q (omega arith)).zero;
  }
