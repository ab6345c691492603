-- Laws: What lies outside a set of place numbers, group by group.
use Rattle.std.specs.Prelude.{◌≡◌, Bool, true, false, not, ◌&&◌, List, ℕ, ◌+◌, ◌*◌, ◌<◌, ◌≤◌, length}
use Rattle.std.proofs.Common.{sym, ap, ◌∙◌, arith}
use Rattle.std.proofs.Math.Arith.{digits_mod}
use Rattle.counting.specs.Count.{one, total_below, count_below}
use Rattle.counting.specs.CountLaws.{total_ext, total-le, total-sum, total-rows}
use Rattle.counting.specs.AscendingLaws.{in-few, ascending, ascending-set, ascending-few, ascending-in}
use Rattle.code.specs.Marks.{lost, lost_in, group_excess, excess}
use Rattle.counting.specs.Sets.{is_in, IsSet}
use Rattle.profile.specs.Profile.{outside}

-- group by group
pub outside-groups : (m w : ℕ) (marks s : List ℕ)
    → outside m w marks s ≡ total_below m (λ g. count_below w (λ j. lost marks (g * w + j) && not (is_in j s)))
unfolding outside
outside-groups m w marks s =
    total-rows m w _ ∙ total_ext m _ _ (λ g _. total_ext w _ _ (λ j l. ap (λ i. one (lost marks (g * w + j) && not (is_in i s))) (digits_mod g l)))

-- which numbers below w are in it is all that counts
pub outside-same : (m w : ℕ) (marks s t : List ℕ) → ((j : ℕ) → j < w → is_in j s ≡ is_in j t) → outside m w marks s ≡ outside m w marks t
outside-same m w marks s t same =
    outside-groups m w marks s
    ∙ total_ext m _ _ (λ g _. total_ext w _ _ (λ j l. ap (λ b. one (lost marks (g * w + j) && not b)) (same j l)))
    ∙ sym (outside-groups m w marks t)

split : (a b : Bool) → one a ≤ one (a && not b) + one b
split true true = omega arith
split true false = omega arith
split false b = omega arith

-- no more lost places than those outside and the numbers of the set
inside-few : (w : ℕ) (f : ℕ → Bool) (s : List ℕ) → count_below w f ≤ count_below w (λ j. f j && not (is_in j s)) + length s
inside-few w f s =
    let i = in-few w s in
    let l = total-le w (λ j. one (f j)) (λ j. one (f j && not (is_in j s)) + one (is_in j s)) (λ j _. split (f j) (is_in j s)) in
    let t = total-sum w (λ j. one (f j && not (is_in j s))) (λ j. one (is_in j s)) in
    omega arith

-- what exceeds c in each group lies outside any set of at most c numbers
pub excess-outside : (m w c : ℕ) (marks s : List ℕ) → length s ≤ c → excess m w c marks ≤ outside m w marks s
unfolding excess lost_in
excess-outside m w c marks s h =
    let e = outside-groups m w marks s in
    let l = total-le m (group_excess w c marks) (λ g. count_below w (λ j. lost marks (g * w + j) && not (is_in j s)))
    (λ g _. let i = inside-few w (λ j. lost marks (g * w + j)) s in omega arith) in
    omega arith

-- for any list of numbers there is a set that has no more of them and leaves as many outside
pub record Same (m w : ℕ) (marks t : List ℕ) : Type 0 where
  pub s : List ℕ
  pub is_set : IsSet 0 w s
  pub size : length s ≤ length t
  pub leaves : outside m w marks s ≡ outside m w marks t

pub same_set : (m w : ℕ) (marks t : List ℕ) → Same m w marks t
same_set m w marks t = record {
  s = ascending 0 w t;
  is_set = ascending-set 0 w w (omega arith) t;
  size = ascending-few w t;
  leaves = outside-same m w marks (ascending 0 w t) t (λ j l. ascending-in 0 w t j (omega arith) (omega arith));
}
