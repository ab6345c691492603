-- Laws: The refusals of a service that is lent marks.
use Rattle.std.specs.Prelude.{◌≡◌, refl, false, List, ℕ, zero, suc, ◌<◌, ◌≤◌, T, ltb, length, get_or}
use Rattle.std.proofs.Common.{sym, subst, arith, ltb→lt, lt→ltb}
use Rattle.std.proofs.Math.Bool.{true}
use Rattle.std.proofs.Math.Decide.{dec_lt}
use borrow.Author.Tests.{not-true, not-false}
use Rattle.std.proofs.Math.Dec.{not_T}
use Rattle.std.specs.Float.Ieee.Bits.{is_true}
use Rattle.std.proofs.Math.ListN.{get_or-eq_default}
use Rattle.counting.specs.TestLaws.{all-at, all-intro}
use Rattle.code.specs.Refusals.{◌or_else◌}
use Rattle.code.specs.RefusalsLaws.{refuse-zero, or_else-zero}
use Rattle.code.specs.Limits.{Limits}
use Rattle.code.specs.LimitsLaws.{good-of-word, word-of-good}
use Rattle.code_services.specs.Marks.{are_marks, marks_refusal_in, MarkedIn}

pub each-mark : (marks : List ℕ) → T (are_marks marks) → (p : ℕ) → get_or marks p 0 < 2
unfolding are_marks
each-mark marks t p = elim (dec_lt p (length marks)) [
  | yes h ↦ ltb→lt (get_or marks p 0) 2 (all-at (length marks) (λ p. ltb (get_or marks p 0) 2) t p h)
  | no h ↦ (let k : length marks ≤ p = omega arith in subst (λ n. n < 2) (sym (get_or-eq_default marks 0 k)) (omega arith))
]

pub marks-each : (marks : List ℕ) → ((p : ℕ) → p < length marks → get_or marks p 0 < 2) → are_marks marks ≡ true
unfolding are_marks
marks-each marks h = is_true _ (all-intro (length marks) (λ p. ltb (get_or marks p 0) 2) (λ p l. lt→ltb (get_or marks p 0) 2 (h p l)))

pub other-mark : (marks : List ℕ) (p : ℕ) → 1 < get_or marks p 0 → are_marks marks ≡ false
other-mark marks p h = not-true (are_marks marks) (is_true _ (not_T (are_marks marks) (λ t. let k = each-mark marks t p in omega arith)))

module _ {L : Limits} (m w c : ℕ) (marks : List ℕ) where
  pub good-of-marks : marks_refusal_in L m w c marks ≡ 0 → MarkedIn L m w c marks
  unfolding marks_refusal_in
  good-of-marks e =
      let z = or_else-zero _ _ e in
      let g = good-of-word m w c (length marks) z.0 in
      let t : are_marks marks ≡ true = not-false _ (refuse-zero 5 _ z.1) in
      record {
        good = g.0;
        size = g.1;
        each = each-mark marks (rw t tt);
      }

  pub marks-of-good : MarkedIn L m w c marks → marks_refusal_in L m w c marks ≡ 0
  unfolding marks_refusal_in
  marks-of-good M =
      simp (word-of-good m w c (length marks) M.good M.size, marks-each marks (λ p _. M.each p))
