-- Laws of the test of a word's equations.
use Rattle.std.specs.Prelude.{◌≡◌, refl, Bool, true, false, ◌&&◌, List, ℕ, ◌<◌, ◌≤◌, eqb}
use Rattle.std.proofs.Math.Path.{sym, ap, subst}
use Rattle.std.proofs.Common.{◌∙◌, arith}
use Rattle.std.proofs.Math.Bool.{not}
use Rattle.std.proofs.lemmas.Bool.{not-true, not-false}
use Rattle.std.proofs.Math.Dec.{T}
use Rattle.std.specs.Float.Ieee.Bits.{is_true}
use Rattle.counting.specs.Test.{all_below}
use Rattle.counting.specs.TestLaws.{all-at, all-intro}
use Rattle.counting.specs.First.{first_below}
use Rattle.counting.specs.FirstLaws.{first-is, first-before, first_holds, first-most}
use Rattle.code.specs.Edition.{Edition}
use Rattle.code.specs.Word.{is_local, first_across, second_across, is_codeword}
use Rattle.code_engine.specs.PartsLaws.{is_false}
use Rattle.code_engine.specs.Tests.{broken_group_in}

module _ (E : Edition) (m w c : ℕ) (word : List ℕ) where
  -- the first group that fails, and the end of a loop that found none
  pub broken-is : (g : ℕ) → g < m → ((k : ℕ) → k < g → T (is_local E w c word k)) → is_local E w c word g ≡ false → g ≡ broken_group_in E m w c word
  unfolding broken_group_in
  broken-is g l before here = sym (first-is m (λ g. not (is_local E w c word g)) g (omega arith) (λ k h. ap not (is_true (is_local E w c word k) (before k h)))
      (λ _. ap not here))

  pub broken-none : (g : ℕ) → g ≤ m → m ≤ g → ((k : ℕ) → k < g → T (is_local E w c word k)) → g ≡ broken_group_in E m w c word
  unfolding broken_group_in
  broken-none g l e before = sym (first-is m (λ g. not (is_local E w c word g)) g l (λ k h. ap not (is_true (is_local E w c word k) (before k h)))
      (λ h. absurd (omega arith)))

  pub broken-most : broken_group_in E m w c word ≤ m
  unfolding broken_group_in
  broken-most = first-most m (λ g. not (is_local E w c word g))

  -- all groups are sound exactly if there is no broken one
  pub none-local : broken_group_in E m w c word ≡ m → all_below m (is_local E w c word) ≡ true
  unfolding broken_group_in
  none-local e =
      is_true _ (all-intro m (is_local E w c word) (λ g l.
      subst T (sym (not-false (is_local E w c word g) (first-before m (λ g. not (is_local E w c word g)) g (subst (λ n. g < n) (sym e) l)))) tt))

  pub some-local : (broken_group_in E m w c word ≡ m → ⊥) → all_below m (is_local E w c word) ≡ false
  unfolding broken_group_in
  some-local n =
      let l : first_below m (λ g. not (is_local E w c word g)) < m = (let k = first-most m (λ g. not (is_local E w c word g)) in omega arith) in
      is_false _ (λ t.
      subst T (not-true (is_local E w c word (first_below m (λ g. not (is_local E w c word g)))) (first_holds m (λ g. not (is_local E w c word g)) l))
      (all-at m (is_local E w c word) t (first_below m (λ g. not (is_local E w c word g))) l))

  -- a broken group makes the word no codeword; else the two sums across decide
  pub broken-other : (broken_group_in E m w c word ≡ m → ⊥) → is_codeword E m w c word ≡ false
  unfolding is_codeword
  broken-other n = rw (some-local n)

  pub across-decide : broken_group_in E m w c word ≡ m
      → is_codeword E m w c word ≡ (eqb (first_across E m w c word) 0 && eqb (second_across E m w c word) 0)
  unfolding is_codeword
  across-decide e = rw (none-local e)
