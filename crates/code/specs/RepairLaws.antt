-- Laws: Repair of one group by its own equations, on its stretch of the word and the marks.
use Rattle.std.specs.Prelude.{◌≡◌, false, List, ℕ, ◌+◌, ◌*◌, ◌<◌, ◌≤◌, ◌^◌, ltb, length, get_or}
use Rattle.std.proofs.Common.{sym, ◌∙◌, subst, lt-ltb, le-ltb, ltb-true, ltb-false, ext_get_or}
use Rattle.code.specs.Edition.{Edition, Sound}
use Rattle.code.specs.Word.{is_local, Symbols}
use Rattle.code.specs.WordLaws.{local-zero}
use Rattle.code.specs.Marks.{lost, lost_in}
use Rattle.code.specs.DeterminedLaws.{local-unique}
use Rattle.code.specs.FillingLaws.{filling-symbols}
use Rattle.code.specs.Outcome.{refused, contradictory, done_with}
use Rattle.code.specs.Outcome as Outcome
use Rattle.code.specs.OutcomeLaws as OutcomeLaws
use Rattle.code.specs.StretchLaws.{own-place}
use Rattle.code.specs.Repair.{repaired, Satisfies}

module _ (E : Edition) (S : Sound E) (w c : ℕ) (wide : 0 < w) (narrow : w ≤ E.small) (part marks : List ℕ) (s : Symbols E w part) where
  -- the filling that satisfies the equations is one, where at most c places are lost
  pub only-filling : lost_in w marks 0 ≤ c → (y z : List ℕ) → Satisfies E w c marks part y → Satisfies E w c marks part z → y ≡ z
  only-filling few y z Y Z =
      ext_get_or 0 y z (Y.fills.size ∙ sym Z.fills.size) λ j l.
      let k : j < w = subst (λ n. j < n) (Y.fills.size ∙ s.size) l in
      subst (λ n. get_or y n 0 ≡ get_or z n 0) (own-place w j)
      (local-unique E S w c 0 wide narrow marks y z (filling-symbols E w marks part y s Y.fills).each (filling-symbols E w marks part z s Z.fills).each
      (λ e h. local-zero E w c y 0 Y.passes e h ∙ sym (local-zero E w c z 0 Z.passes e h))
      (λ i h e. present y Y i h e ∙ sym (present z Z i h e)) few j k)
    where
      present : (x : List ℕ) → Satisfies E w c marks part x → (i : ℕ) → i < w → lost marks (0 * w + i) ≡ false → get_or x (0 * w + i) 0 ≡ get_or part (0 * w + i) 0
      present x X i h e = X.fills.present (0 * w + i) (subst (λ n. n < length part) (sym (own-place w i)) (subst (λ n. i < n) (sym s.size) h)) e

  only-small : ltb c (lost_in w marks 0) ≡ false → (y z : List ℕ) → Satisfies E w c marks part y → Satisfies E w c marks part z → y ≡ z
  only-small e = only-filling (ltb-false c (lost_in w marks 0) e)

  module _ (g : ℕ) where
    -- ---- how each answer is reached
    pub repaired-eight : c < lost_in w marks 0 → repaired E w c g part marks ≡ refused 8 part marks
    repaired-eight h = OutcomeLaws.answered-eight (2 ^ E.bits) (λ x. is_local E w c x 0) (ltb c (lost_in w marks 0)) g part marks (lt-ltb c (lost_in w marks 0) h)

    pub repaired-nine : lost_in w marks 0 ≤ c → ((y : List ℕ) → Satisfies E w c marks part y → ⊥) → repaired E w c g part marks ≡ contradictory g part marks
    repaired-nine h never = OutcomeLaws.answered-nine (2 ^ E.bits) (λ x. is_local E w c x 0) (ltb c (lost_in w marks 0)) g part marks
        (le-ltb c (lost_in w marks 0) h) never

    pub repaired-done : (x : List ℕ) → lost_in w marks 0 ≤ c → Satisfies E w c marks part x → repaired E w c g part marks ≡ done_with x marks
    repaired-done x h P =
        OutcomeLaws.answered-done (2 ^ E.bits) (λ x. is_local E w c x 0) (ltb c (lost_in w marks 0)) g part marks only-small (le-ltb c (lost_in w marks 0) h) x P

    -- ---- the rule of demand 2 over the group's own equations
    pub eight-many : (repaired E w c g part marks).number ≡ 8 → c < lost_in w marks 0
    eight-many e = ltb-true c (lost_in w marks 0) (OutcomeLaws.eight-large (2 ^ E.bits) (λ x. is_local E w c x 0) (ltb c (lost_in w marks 0)) g part marks e)

    pub nine-contradictory : (repaired E w c g part marks).number ≡ 9 → (lost_in w marks 0 ≤ c) × ((y : List ℕ) → Satisfies E w c marks part y → ⊥)
    nine-contradictory e =
        let N = OutcomeLaws.nine-never (2 ^ E.bits) (λ x. is_local E w c x 0) (ltb c (lost_in w marks 0)) g part marks e in
        (ltb-false c (lost_in w marks 0) N.0, N.1)

    -- the only filling stands in the stretch, and its marks are clear
    pub done-single : (repaired E w c g part marks).number ≡ 0 → Outcome.Single (2 ^ E.bits) (λ x. is_local E w c x 0) (ltb c (lost_in w marks 0)) g part marks
    done-single e = OutcomeLaws.done-single (2 ^ E.bits) (λ x. is_local E w c x 0) (ltb c (lost_in w marks 0)) g part marks only-small e
